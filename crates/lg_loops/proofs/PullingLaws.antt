-- What the ticking loop has to do, turn by turn.
use Rattle.std.proofs.Common.{◌≡◌, ℕ, ◌+◌, ◌%◌, ◌<◌, ◌≤◌, Bool, true, false, List, [], ◌∷◌, ◌++◌, length, drop, get_or, refl, ap, sym, ◌∙◌, subst, arith, append_assoc, append-nil}
use Rattle.std.specs.Prelude.{if◌then◌else◌}
use Rattle.std.specs.List.{flat_map, filter, items_where_true}
use Rattle.std.specs.List.Retain.{IsFiltered, ReturnsInTurn}
use Rattle.std.proofs.Math.Nat.{mod-add-mod, mod-mod, zero-mod}
use Rattle.std.proofs.lemmas.Nat.{mod_below}
use Rattle.std.proofs.lemmas.List.{drop_more, drop_all}
use Rattle.std.proofs.lemmas.List.Concat.{flat_map-append}
use Rattle.lg_rules.specs.declared.addr.Addr.{Addr}
use Rattle.lg_detector.specs.declared.event.Event.{Event}
use Rattle.lg_agent.specs.declared.receipt.Receipt.{Receipt}
use Rattle.lg_loops.specs.declared.agenda.Agenda.{Agenda}
use Rattle.lg_turns.specs.declared.plan.Plan.{Plan}
use Rattle.lg_turns.specs.Meaning.Turns.{Turn}
use Rattle.lg_turns.specs.Meaning.Turns.Turn.{Looked, Unlooked, Learned, Departed}
use Rattle.lg_turns.specs.Meaning.Leaving.{lingering}
use Rattle.lg_turns.specs.Meaning.Resolving.{learning}
use Rattle.lg_turns.specs.Meaning.Pulling.{looks_from, last_moment, askings, askings_from, askings_after, seed_turns, waiting, waiting_from, look_ms, AreTimely, IsFirstWaiting, IsLookTime, IsAskingTime, IsIdleTime, MayAskMember, MayAskInTurn}
use Rattle.lg_loops.specs.Support.Acted.{IsAgenda, IsAsking, IsNextAgenda, IsAskingDue, IsSeedNext, IsMemberNext, IsNoLook, IsNoAsking, agenda_at, waiting_by}
use Rattle.lg_loops.proofs.LeavingLaws.{none_ever, no_distance}

pub last_moment-append : (since : ℕ) (xs ys : List ℕ) → last_moment since (xs ++ ys) ≡ last_moment (last_moment since xs) ys
last_moment-append since [] ys = refl
last_moment-append since (x ∷ xs) ys = last_moment-append x xs ys

-- the last moment after one more turn
last_more : (f : Turn → List ℕ) (since : ℕ) (turns : List Turn) (t : Turn) → last_moment since (flat_map f (turns ++ t ∷ [])) ≡ last_moment (last_moment since (flat_map f turns)) (f t)
last_more f since turns t =
    ap (last_moment since) (flat_map-append f turns (t ∷ []) ∙ ap (λ (l : List ℕ). flat_map f turns ++ l) (append-nil (f t))) ∙ last_moment-append since (flat_map f turns) (f t)

waiting-append : (seeds before : List Addr) (turns : List Turn) (t : Turn) → waiting_from seeds before (turns ++ t ∷ []) ≡ waiting seeds (waiting_from seeds before turns) t
waiting-append seeds before [] t = refl
waiting-append seeds before (u ∷ turns) t = waiting-append seeds (waiting seeds before u) turns t

askings-append : (moments : List ℕ) (turns : List Turn) (t : Turn) → askings_from moments (turns ++ t ∷ []) ≡ askings (askings_from moments turns) t
askings-append moments [] t = refl
askings-append moments (u ∷ turns) t = askings-append (askings moments u) turns t

-- the agenda after one more turn
pub agenda_more : (plan : Plan) (since : ℕ) (before : List Turn) (t : Turn) (a b : Agenda) → IsAgenda plan since before a
    → b.next_look ≡ last_moment a.next_look (looks_from t) → IsAsking plan (askings (askings_after since before) t) b → waiting_by plan b ≡ waiting plan.seeds.items (waiting_by plan a) t
    → IsAgenda plan since (before ++ t ∷ []) b
agenda_more plan since before t a b was look asking waits = record {
  look = look ∙ (ap (λ n. last_moment n (looks_from t)) was.look ∙ sym (last_more looks_from (since + look_ms) before t));
  asking = subst (λ (ms : List ℕ). IsAsking plan ms b) (sym (askings-append (since ∷ []) before t)) asking;
  waits = waits ∙ (ap (λ (l : List Addr). waiting plan.seeds.items l t) was.waits ∙ sym (waiting-append plan.seeds.items [] before t));
}

-- a turn in which nothing is noted
pub agenda_same : (plan : Plan) (since : ℕ) (before : List Turn) (t : Turn) (a : Agenda) → IsAgenda plan since before a
    → a.next_look ≡ last_moment a.next_look (looks_from t) → askings (askings_after since before) t ≡ askings_after since before → waiting_by plan a ≡ waiting plan.seeds.items (waiting_by plan a) t
    → IsAgenda plan since (before ++ t ∷ []) a
agenda_same plan since before t a was look same waits = agenda_more plan since before t a a was look (subst (λ (ms : List ℕ). IsAsking plan ms a) (sym same) was.asking) waits

-- an agenda that counts from a moment
pub asking_from : (plan : Plan) (now asked : ℕ) → IsAsking plan (now ∷ []) (agenda_at plan now asked)
asking_from plan now asked = record { earlier = []; are = refl; distance = refl; turn = refl; next = λ some. sym (zero-mod (length plan.seeds.items)) }

-- whose turn it is once one more table was asked for
turns_more : (b : Bool) (s n l : ℕ) → n ≡ s % l → (if b then (n + 1) % l else n) ≡ (if b then s + 1 else s) % l
turns_more true s n l is = ap (λ (x : ℕ). (x + 1) % l) is ∙ mod-add-mod s l 1
turns_more false s n l is = is

asking_next : (plan : Plan) (moments : List ℕ) (now : ℕ) (a b : Agenda) → IsAsking plan moments a → IsNextAgenda plan now a b → IsAsking plan (now ∷ moments) b
asking_next plan moments now a b was is =
    let e = was.earlier in
    rw was.are (record {
      earlier = a.latest ∷ e;
      are = ap (λ (m : ℕ). m ∷ (a.latest ∷ e)) (sym is.latest);
      distance = rw (← was.distance) is.distance;
      turn = rw (← was.turn) is.turn;
      next = λ some. is.next some ∙ (turns_more a.is_seeds_turn (seed_turns e) a.next_seed (length plan.seeds.items) (was.next some)
          ∙ ap (λ (b : Bool). (if b then seed_turns e + 1 else seed_turns e) % length plan.seeds.items) was.turn);
    })

-- the agenda after a turn in which a table was asked for in turn, or was to be
pub agenda_next : (plan : Plan) (since : ℕ) (before : List Turn) (t : Turn) (now : ℕ) (a b : Agenda) → IsAgenda plan since before a → IsNextAgenda plan now a b
    → a.next_look ≡ last_moment a.next_look (looks_from t) → askings (askings_after since before) t ≡ now ∷ askings_after since before → waiting_by plan a ≡ waiting plan.seeds.items (waiting_by plan a) t
    → IsAgenda plan since (before ++ t ∷ []) b
agenda_next plan since before t now a b was is look asks waits =
    agenda_more plan since before t a b was (is.look ∙ look) (subst (λ (ms : List ℕ). IsAsking plan ms b) (sym asks) (asking_next plan (askings_after since before) now a b was.asking is)) (ap (λ (n : ℕ). drop n plan.seeds.items) is.asked ∙ waits)

pub timely_join : (plan : Plan) (since : ℕ) (before ts us : List Turn) → AreTimely plan since before ts → AreTimely plan since (before ++ ts) us → AreTimely plan since before (ts ++ us)
timely_join plan since before [] us one two = subst (λ (l : List Turn). AreTimely plan since l us) (append-nil before) two
timely_join plan since before (t ∷ ts) us one two =
    (one.0, timely_join plan since (before ++ t ∷ []) ts us one.1 (subst (λ (l : List Turn). AreTimely plan since l us) (sym (append_assoc before (t ∷ []) ts)) two))

-- none of the seeds waits
pub none_waits : (seeds : List Addr) (n : ℕ) → length seeds ≤ n → drop n seeds ≡ []
none_waits seeds n all = drop_all n seeds all

-- and if one does, the first is the one with this number
pub first_waits : (seeds : List Addr) (n : ℕ) (d : Addr) → n < length seeds → drop n seeds ≡ get_or seeds n d ∷ drop (n + 1) seeds
first_waits seeds n d there = drop_more seeds n d there

-- the seed whose turn it is, by its number
pub next_seed_is : (plan : Plan) (a : Agenda) (d : Addr) → a.is_seeds_turn ≡ true → 0 < length plan.seeds.items → IsSeedNext plan a (get_or plan.seeds.items (a.next_seed % length plan.seeds.items) d)
next_seed_is plan a d turn some =
    let seeds : List Addr = plan.seeds.items in
    let n : ℕ = a.next_seed % length seeds in
    record { turn = turn; some = some; rest = drop (n + 1) seeds; is = first_waits seeds n d (mod_below a.next_seed (length seeds) some) }

-- the seed that is asked is the first that waits, and then it waits no longer
pub seed_first : (plan : Plan) (since : ℕ) (before : List Turn) (a : Agenda) (peer : Addr) → IsAgenda plan since before a → waiting_by plan a ≡ peer ∷ waiting_by plan (record a { asked = a.asked + 1 })
    → IsFirstWaiting plan before peer
seed_first plan since before a peer was is = (waiting_by plan (record a { asked = a.asked + 1 }), sym was.waits ∙ is)

-- the agenda after a turn in which a seed that waited was asked
pub seed_noted : (plan : Plan) (since : ℕ) (before : List Turn) (t : Turn) (a : Agenda) (peer : Addr) → IsAgenda plan since before a
    → a.next_look ≡ last_moment a.next_look (looks_from t) → askings (askings_after since before) t ≡ askings_after since before → waiting plan.seeds.items (waiting_by plan a) t ≡ drop 1 (waiting_by plan a)
    → waiting_by plan a ≡ peer ∷ waiting_by plan (record a { asked = a.asked + 1 }) → IsAgenda plan since (before ++ t ∷ []) (record a { asked = a.asked + 1 })
seed_noted plan since before t a peer was look same one is =
    let w = was.asking in
    agenda_more plan since before t a (record a { asked = a.asked + 1 }) was look
    (subst (λ (ms : List ℕ). IsAsking plan ms (record a { asked = a.asked + 1 })) (sym same) (record { earlier = w.earlier; are = w.are; distance = w.distance; turn = w.turn; next = w.next }))
    (sym (one ∙ ap (λ (l : List Addr). drop 1 l) is))

-- what is to be done by an agenda is timely
pub look_time : (plan : Plan) (since : ℕ) (before : List Turn) (a : Agenda) (now : ℕ) → IsAgenda plan since before a → (waiting_by plan a ≡ []) × (0 < length plan.seeds.items) × (a.next_look ≤ now)
    → IsLookTime plan since before now
look_time plan since before a now was is = record { none_waits = sym was.waits ∙ is.0; some = is.1; come = let l = was.look in let m = is.2 in rw (← l) m }

asking_time : (plan : Plan) (since : ℕ) (before : List Turn) (a : Agenda) (now : ℕ) → IsAgenda plan since before a → IsAskingDue plan a now → IsAskingTime plan since before now
asking_time plan since before a now was is = record {
  none_waits = sym was.waits ∙ is.none_waits;
  no_look = let l = was.look in let m = is.no_look in rw (← l) m;
  some = is.some;
  come = let d = was.asking.distance in let m = is.come in rw (was.asking.are, ← d) m;
}

pub member_time : (plan : Plan) (since : ℕ) (before : List Turn) (a : Agenda) (now : ℕ) → now < plan.until → IsAgenda plan since before a → IsAskingDue plan a now × IsMemberNext plan a → MayAskMember plan since before now
member_time plan since before a now low was is = record {
  early = low;
  time = asking_time plan since before a now was is.0;
  members = let t = was.asking.turn in let m = is.1 in rw (was.asking.are, ← t) m;
}

pub seed_time : (plan : Plan) (since : ℕ) (before : List Turn) (a : Agenda) (now : ℕ) (peer : Addr) → now < plan.until → IsAgenda plan since before a → IsAskingDue plan a now × IsSeedNext plan a peer
    → MayAskInTurn plan since before now peer
seed_time plan since before a now peer low was is =
    let l = length plan.seeds.items in
    let number : a.next_seed % l ≡ seed_turns was.asking.earlier % l = ap (λ (x : ℕ). x % l) (was.asking.next is.1.some) ∙ mod-mod (seed_turns was.asking.earlier) l in
    record {
      early = low;
      time = asking_time plan since before a now was is.0;
      seed = rw was.asking.are (record { is_seeds = sym was.asking.turn ∙ is.1.turn; rest = is.1.rest; is = sym (ap (λ (x : ℕ). drop x plan.seeds.items) number) ∙ is.1.is });
    }

pub idle_time : (plan : Plan) (since : ℕ) (before : List Turn) (a : Agenda) (now : ℕ) → IsAgenda plan since before a → (waiting_by plan a ≡ []) × IsNoLook plan a now × IsNoAsking plan a now → IsIdleTime plan since before now
idle_time plan since before a now was is = record {
  none_waits = sym was.waits ∙ is.0;
  no_look = let l = was.look in let m = is.1 in rw (← l) m;
  no_asking = let d = was.asking.distance in let m = is.2 in rw (was.asking.are, ← d) m;
}

-- the agenda after a look
pub look_noted : (plan : Plan) (since : ℕ) (before : List Turn) (a : Agenda) (now : ℕ) (seen : List Event) (asks : Bool) → IsAgenda plan since before a
    → IsAgenda plan since (before ++ Looked now seen asks ∷ []) (if asks then record (agenda_at plan now 0) { left = a.left } else record a { next_look = now + look_ms; asked = length plan.seeds.items })
look_noted plan since before a now seen true was =
    let w = asking_from plan now 0 in
    agenda_more plan since before (Looked now seen true) a (record (agenda_at plan now 0) { left = a.left }) was refl (record { earlier = w.earlier; are = w.are; distance = w.distance; turn = w.turn; next = w.next }) refl
look_noted plan since before a now seen false was =
    let w = was.asking in
    agenda_more plan since before (Looked now seen false) a (record a { next_look = now + look_ms; asked = length plan.seeds.items }) was refl (record { earlier = w.earlier; are = w.are; distance = w.distance; turn = w.turn; next = w.next })
    (none_waits plan.seeds.items (length plan.seeds.items) (omega arith))

-- the agenda after a look that was refused
pub no_look_noted : (plan : Plan) (since : ℕ) (before : List Turn) (a : Agenda) (now : ℕ) → IsAgenda plan since before a → IsAgenda plan since (before ++ Unlooked now ∷ []) (record a { next_look = now + look_ms })
no_look_noted plan since before a now was =
    let w = was.asking in
    agenda_more plan since before (Unlooked now) a (record a { next_look = now + look_ms }) was refl (record { earlier = w.earlier; are = w.are; distance = w.distance; turn = w.turn; next = w.next }) refl

-- the agenda after other addresses of the seeds were learned
pub learned_noted : (plan : Plan) (since : ℕ) (before : List Turn) (a : Agenda) (now : ℕ) (found : List Addr) → IsAgenda plan since before a
    → IsAgenda (learning plan found) since (before ++ Learned now found ∷ []) (record (agenda_at (learning plan found) now (length (learning plan found).seeds.items)) { next_look = now; left = a.left })
learned_noted plan since before a now found was =
    let after : Plan = learning plan found in
    let t : Turn = Learned now found in
    let w = asking_from after now (length after.seeds.items) in
    record {
      look = sym (last_more looks_from (since + look_ms) before t);
      asking = rw (askings-append (since ∷ []) before t) (record { earlier = w.earlier; are = w.are; distance = w.distance; turn = w.turn; next = w.next });
      waits = none_waits after.seeds.items (length after.seeds.items) (omega arith) ∙ sym (waiting-append after.seeds.items [] before t);
    }

-- and after this member left: its plan has no seeds any more, and asks for no table
pub leave_noted : (plan : Plan) (since : ℕ) (before : List Turn) (a : Agenda) (now : ℕ) (words : List ℕ) (r : Receipt) (sent : List Bool) → IsAgenda plan since before a
    → IsAgenda (lingering plan now) since (before ++ Departed now words r sent ∷ []) (record a { distance = 0; asked = 0; left = true })
leave_noted plan since before a now words r sent was =
    let w = was.asking in
    let t : Turn = Departed now words r sent in
    let turns : List Turn = before ++ t ∷ [] in
    record {
      look = was.look ∙ sym (last_more looks_from (since + look_ms) before t);
      asking = rw (askings-append (since ∷ []) before t) (record { earlier = w.earlier; are = w.are; distance = sym (no_distance plan.interval_ms w.earlier); turn = w.turn; next = λ some. absurd (omega (arith, some)) });
      waits = sym (none_ever turns);
    }

-- what `retain` leaves, if its closure only tests
module _ {X F : Type 0} (R : F → X → Bool → F → Type 0) (test : X → Bool) (f : F) (says : (x : X) (b : Bool) (f' : F) → R f x b f' → (b ≡ test x) × (f' ≡ f)) where
  told_filter : (bs : List Bool) (xs : List X) (q : F) → length bs ≡ length xs → ReturnsInTurn R f bs xs q → items_where_true bs xs ≡ filter test xs
  told_filter [] [] q same told = refl
  told_filter [] (x ∷ xs) q same told = absurd (omega arith)
  told_filter (b ∷ bs) [] q same told = absurd told
  told_filter (true ∷ bs) (x ∷ xs) q same told =
      let one = says x true told.0 told.1 in
      rw (← one.0) (ap (λ (l : List X). x ∷ l) (told_filter bs xs q (omega arith) (subst (λ (y : F). ReturnsInTurn R y bs xs q) one.1 told.2)))
  told_filter (false ∷ bs) (x ∷ xs) q same told =
      let one = says x false told.0 told.1 in
      rw (← one.0) (told_filter bs xs q (omega arith) (subst (λ (y : F). ReturnsInTurn R y bs xs q) one.1 told.2))

  pub filter_kept : (xs ys : List X) → IsFiltered R f xs ys → ys ≡ filter test xs
  filter_kept xs ys kept = kept.4 ∙ told_filter kept.0 xs kept.1 kept.2 kept.3
