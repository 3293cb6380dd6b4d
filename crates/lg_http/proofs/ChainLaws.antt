-- The calls that one `advance` makes are answered from one state of the site.
use Rattle.std.proofs.Common.{◌≡◌, ℕ, Bool, List, [], ◌∷◌, ◌++◌, All, sym, ap, subst, ◌∙◌, append_assoc}
use Rattle.std.proofs.lemmas.List.Elements.{All-nil, All-cons, All-append, All-head, All-tail, All-weaker}
use Rattle.std.proofs.lemmas.List.{append-nil}
use Rattle.http.specs.declared.request.Request.{Request}
use Rattle.http_server.specs.declared.response.Response.{Response}
use Rattle.http_server.specs.Exchange.{Call, Chain}
use Rattle.lg_http.specs.declared.desk.Desk.{Desk}
use Rattle.lg_http.specs.declared.hosts.Hosts.{Hosts}
use Rattle.lg_http.specs.Meaning.Fronts.{WaitRule}
use Rattle.lg_http.specs.Meaning.Parked.{Slot, parked_count}
use Rattle.lg_http.specs.Meaning.Answers.{SiteAnswers, SiteActs, SiteVersion, SiteReplies, SiteOrder, IsSiteOrder, IsTooMany, RepliesAmong, Replies, AreAnswered, AddsCalls}

-- what a desk answers, by the version that it has been told
abbrev pub DeskAnswers : {S : Type 0} → SiteAnswers S → SiteActs S → WaitRule → Desk S → Request (List ℕ) → Response → Desk S → Type 0
DeskAnswers answers acts waits old request response new =
    (new ≡ old) × RepliesAmong answers acts (λ _. old.version) waits old.hosts old.others old.is_loopback old.site (request, response)

-- what a desk answers to one call after another
abbrev pub DeskReplies : {S : Type 0} → SiteAnswers S → SiteActs S → SiteVersion S → WaitRule → Desk S → Call → Type 0
DeskReplies answers acts version waits desk = RepliesAmong answers acts version waits desk.hosts desk.others desk.is_loopback desk.site

-- if the desk knows which version its site shows, its reply is right by that
known_reply : {S : Type 0} (answers : SiteAnswers S) (acts : SiteActs S) (version : SiteVersion S) (waits : WaitRule) (desk : Desk S) (call : Call)
    → desk.version ≡ version desk.site → RepliesAmong answers acts (λ _. desk.version) waits desk.hosts desk.others desk.is_loopback desk.site call
    → DeskReplies answers acts version waits desk call
known_reply answers acts version waits desk call knows reply =
    (reply.0, subst (λ (v : ℕ). IsTooMany waits v desk.others call.0 reply.0) knows reply.1, reply.2)

pub chain_answered : {S : Type 0} (answers : SiteAnswers S) (acts : SiteActs S) (version : SiteVersion S) (waits : WaitRule) (calls : List Call) (old new : Desk S)
    → old.version ≡ version old.site
    → Chain (DeskAnswers answers acts waits) old calls new → (new ≡ old) × All (DeskReplies answers acts version waits old) calls
chain_answered answers acts version waits [] old new knows x = (x, All-nil (DeskReplies answers acts version waits old))
chain_answered {S} answers acts version waits (c ∷ calls) old new knows x =
    let still : x.0.version ≡ version x.0.site = subst (λ (d : Desk S). d.version ≡ version d.site) (sym x.1.0) knows in
    let later = chain_answered answers acts version waits calls x.0 new still x.2 in (
      later.0 ∙ x.1.0,
      All-cons (DeskReplies answers acts version waits old) c calls (known_reply answers acts version waits old c knows x.1.1)
          (subst (λ (d : Desk S). All (DeskReplies answers acts version waits d) calls) x.1.0 later.1),
    )

-- what is right among so many other long polls is right among some
pub among_some : {S : Type 0} (answers : SiteAnswers S) (acts : SiteActs S) (version : SiteVersion S) (waits : WaitRule) (hosts : Hosts) (site : S)
    (others : List Slot) (n : ℕ) (loopback : Bool) (old new : List Call) → parked_count others ≡ n
    → AddsCalls (RepliesAmong answers acts version waits hosts n loopback) site old new → AddsCalls (Replies answers acts version waits hosts) site old new
among_some answers acts version waits hosts site others n loopback old new counted adds = (
  adds.0,
  adds.1,
  All-weaker (RepliesAmong answers acts version waits hosts n loopback site) (Replies answers acts version waits hosts site)
      (λ (call : Call) reply. (others, loopback, subst (λ (m : ℕ). RepliesAmong answers acts version waits hosts m loopback site call) (sym counted) reply))
      adds.0 adds.2,
)

pub adds_nothing : {S : Type 0} (replies : SiteReplies S) (site : S) (old new : List Call) → new ≡ old → AddsCalls replies site old new
adds_nothing replies site old new e = ([], e ∙ sym (append-nil old), All-nil (replies site))

pub adds_both : {S : Type 0} (replies : SiteReplies S) (site : S) (old now new : List Call)
    → AddsCalls replies site old now → AddsCalls replies site now new → AddsCalls replies site old new
adds_both replies site old now new a b = (
  a.0 ++ b.0,
  b.1 ∙ ap (λ (x : List Call). x ++ b.0) a.1 ∙ append_assoc old a.0 b.0,
  All-append (replies site) a.0 b.0 a.2 b.2,
)

-- the states that calls were answered from may begin with an earlier one
answered_since : {S : Type 0} (replies : SiteReplies S) (later : SiteOrder S) → IsSiteOrder later
    → (before first : S) (calls : List Call) (last : S) → later before first
    → AreAnswered replies later first calls last → AreAnswered replies later before calls last
answered_since replies later order before first [] last began h = order.both before first last began h
answered_since replies later order before first (call ∷ calls) last began h =
    (h.0, order.both before first h.0 began h.1, h.2, h.3)

-- calls and later ones
answered_both : {S : Type 0} (replies : SiteReplies S) (later : SiteOrder S) → IsSiteOrder later
    → (first now last : S) (xs ys : List Call)
    → AreAnswered replies later first xs now → AreAnswered replies later now ys last → AreAnswered replies later first (xs ++ ys) last
answered_both replies later order first now last [] ys a b = answered_since replies later order first now ys last a b
answered_both replies later order first now last (x ∷ xs) ys a b =
    (a.0, a.1, a.2, answered_both replies later order a.0 now last xs ys a.3 b)

-- calls from one state
answered_at : {S : Type 0} (replies : SiteReplies S) (later : SiteOrder S) → IsSiteOrder later
    → (site : S) (calls : List Call) → All (replies site) calls → AreAnswered replies later site calls site
answered_at replies later order site [] h = order.same site
answered_at replies later order site (call ∷ calls) h = (
  site,
  order.same site,
  All-head (replies site) call calls h,
  answered_at replies later order site calls (All-tail (replies site) call calls h),
)

-- the site may go on
pub answered_until : {S : Type 0} (replies : SiteReplies S) (later : SiteOrder S) → IsSiteOrder later
    → (first now last : S) (calls : List Call) → later now last
    → AreAnswered replies later first calls now → AreAnswered replies later first calls last
answered_until replies later order first now last [] goes_on h = order.both first now last h goes_on
answered_until replies later order first now last (call ∷ calls) goes_on h =
    (h.0, h.1, h.2, answered_until replies later order h.0 now last calls goes_on h.3)

pub adds_answered : {S : Type 0} (replies : SiteReplies S) (later : SiteOrder S) → IsSiteOrder later
    → (site : S) (old new : List Call) → AddsCalls replies site old new
    → ((first : S) × AreAnswered replies later first old site) → ((first : S) × AreAnswered replies later first new site)
adds_answered replies later order site old new a h = (
  h.0,
  subst (λ (calls : List Call). AreAnswered replies later h.0 calls site) (sym a.1)
      (answered_both replies later order h.0 site site old a.0 h.1 (answered_at replies later order site a.0 a.2)),
)

pub answered_same : {S : Type 0} (replies : SiteReplies S) (later : SiteOrder S) (site : S) (old new : List Call) → new ≡ old
    → ((first : S) × AreAnswered replies later first old site) → ((first : S) × AreAnswered replies later first new site)
answered_same replies later site old new e h =
    (h.0, subst (λ (calls : List Call). AreAnswered replies later h.0 calls site) (sym e) h.1)
