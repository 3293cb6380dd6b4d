-- What a desk fills in is the reply.
use Rattle.std.proofs.Common.{refl, Some, None, ◌≡◌, ℕ, Bool, ◌||◌, List, [], ◌∷◌, ◌++◌, codes, Result, Ok, Err, OnOk, IsTrue, IsFalse, ap, ◌∙◌, rules}
use Rattle.http.specs.declared.request.Request.{Request}
use Rattle.http.specs.Request.{head_of}
use Rattle.http_uri.specs.Uri.{uri_path, uri_query}
use Rattle.http_server.specs.declared.response.Response.{Response}
use Rattle.http_server.specs.Response.{fields_of}
use Rattle.lg_http.specs.declared.asked.OtherRequest.{OtherRequest}
use Rattle.lg_http.specs.declared.hosts.Hosts.{Hosts}
use Rattle.lg_http.specs.declared.site.HttpAnswer.{HttpAnswer}
use Rattle.lg_http.specs.declared.site.Kind.TheVariants.{Json}
use Rattle.lg_http.specs.Meaning.Answers.{SiteAnswers, SiteActs, IsServedMethod, IsTooMany, RepliesAmong, IsReply, closing, content_type, status_number, field_of, has_body}
use Rattle.lg_http.specs.Meaning.Answers.{allowed, answer_fields, retry, method_body, crowded_body, misdirected_body}
use Rattle.lg_http.specs.Meaning.Asked.{asked_from, asked_value}
use Rattle.lg_http.specs.Meaning.Fronts.{WaitRule}
use Rattle.lg_http.specs.Meaning.Hosts.{AnswersTo}

pub never_both : (b : Bool) → IsTrue b → IsFalse b → ⊥
never_both b t f = search rules

-- a request for another host
pub misdirected_reply : {S A E : Type 0} (answers : SiteAnswers S) (acts : SiteActs S) (hosts : Hosts) (loopback full : Bool) (site : S) (request : Request (List ℕ))
    (begun filled : Response) (r : Result A E)
    → ¬ (AnswersTo hosts (field_of (codes "host") request))
    → fields_of begun ≡ closing (full || has_body request) → filled.status ≡ 421
    → OnOk r (fields_of filled ≡ fields_of begun ++ content_type Json ∷ []) → OnOk r (filled.body.items ≡ misdirected_body)
    → OnOk r (IsReply answers acts hosts loopback full site request filled)
misdirected_reply answers acts hosts loopback full site request begun filled (Ok x) away closes status headers body = record {
  misdirected = λ _. record {
    status = status;
    headers = headers ∙ ap (λ (h : List (List ℕ × List ℕ)). h ++ content_type Json ∷ []) closes;
    body = body;
  };
  other = λ here. absurd (away here);
  crowded = λ here. absurd (away here);
  served = λ here. absurd (away here);
}
misdirected_reply answers acts hosts loopback full site request begun filled (Err e) away closes status headers body = tt

-- a method that is neither GET nor HEAD, and that the site has no answer to
pub other_reply : {S A E : Type 0} (answers : SiteAnswers S) (acts : SiteActs S) (hosts : Hosts) (loopback full : Bool) (site : S) (request : Request (List ℕ))
    (begun filled : Response) (r : Result A E)
    → AnswersTo hosts (field_of (codes "host") request) → ¬ (IsServedMethod (head_of request).method)
    → acts site (asked_from loopback request) None
    → fields_of begun ≡ closing (full || has_body request) → filled.status ≡ 405
    → OnOk r (fields_of filled ≡ fields_of begun ++ allowed ∷ content_type Json ∷ []) → OnOk r (filled.body.items ≡ method_body)
    → OnOk r (IsReply answers acts hosts loopback full site request filled)
other_reply answers acts hosts loopback full site request begun filled (Ok x) here unserved none closes status headers body = record {
  misdirected = λ away. absurd (away here);
  other = λ _ _. (
    None,
    none,
    record {
      status = status;
      headers = headers ∙ ap (λ (h : List (List ℕ × List ℕ)). h ++ allowed ∷ content_type Json ∷ []) closes;
      body = body;
    },
  );
  crowded = λ _ is_served. absurd (unserved is_served);
  served = λ _ is_served. absurd (unserved is_served);
}
other_reply answers acts hosts loopback full site request begun filled (Err e) here unserved none closes status headers body = tt

-- a method that is neither GET nor HEAD, and that the site has an answer to
pub act_reply : {S A E : Type 0} (answers : SiteAnswers S) (acts : SiteActs S) (hosts : Hosts) (loopback full : Bool) (site : S) (request : Request (List ℕ))
    (begun filled : Response) (r : Result A E) (a : HttpAnswer)
    → AnswersTo hosts (field_of (codes "host") request) → ¬ (IsServedMethod (head_of request).method)
    → acts site (asked_from loopback request) (Some a)
    → fields_of begun ≡ closing (full || has_body request) → filled.status ≡ status_number a.status
    → OnOk r (fields_of filled ≡ fields_of begun ++ answer_fields a.status a.kind) → OnOk r (filled.body.items ≡ a.body.items)
    → OnOk r (IsReply answers acts hosts loopback full site request filled)
act_reply answers acts hosts loopback full site request begun filled (Ok x) a here unserved answered closes status headers body = record {
  misdirected = λ away. absurd (away here);
  other = λ _ _. (
    Some a,
    answered,
    record {
      status = status;
      headers = headers ∙ ap (λ (h : List (List ℕ × List ℕ)). h ++ answer_fields a.status a.kind) closes;
      body = body;
    },
  );
  crowded = λ _ is_served. absurd (unserved is_served);
  served = λ _ is_served. absurd (unserved is_served);
}
act_reply answers acts hosts loopback full site request begun filled (Err e) a here unserved answered closes status headers body = tt

-- a long poll too many
pub crowded_reply : {S A E : Type 0} (answers : SiteAnswers S) (acts : SiteActs S) (hosts : Hosts) (loopback full : Bool) (site : S) (request : Request (List ℕ))
    (begun filled : Response) (r : Result A E)
    → AnswersTo hosts (field_of (codes "host") request) → IsServedMethod (head_of request).method → IsTrue full
    → fields_of begun ≡ closing (full || has_body request) → filled.status ≡ 503
    → OnOk r (fields_of filled ≡ fields_of begun ++ retry ∷ content_type Json ∷ []) → OnOk r (filled.body.items ≡ crowded_body)
    → OnOk r (IsReply answers acts hosts loopback full site request filled)
crowded_reply answers acts hosts loopback full site request begun filled (Ok x) here is_served is_full closes status headers body = record {
  misdirected = λ away. absurd (away here);
  other = λ _ no. absurd (no is_served);
  crowded = λ _ _ _. record {
    status = status;
    headers = headers ∙ ap (λ (h : List (List ℕ × List ℕ)). h ++ retry ∷ content_type Json ∷ []) closes;
    body = body;
  };
  served = λ _ _ free. absurd (never_both full is_full free);
}
crowded_reply answers acts hosts loopback full site request begun filled (Err e) here is_served is_full closes status headers body = tt

-- what the site answers
pub site_reply : {S A E : Type 0} (answers : SiteAnswers S) (acts : SiteActs S) (hosts : Hosts) (loopback full : Bool) (site : S) (request : Request (List ℕ))
    (begun filled : Response) (r : Result A E) (a : HttpAnswer)
    → AnswersTo hosts (field_of (codes "host") request) → IsServedMethod (head_of request).method → IsFalse full
    → answers site (uri_path (head_of request).uri) (uri_query (head_of request).uri) a
    → fields_of begun ≡ closing (full || has_body request) → filled.status ≡ status_number a.status
    → OnOk r (fields_of filled ≡ fields_of begun ++ answer_fields a.status a.kind) → OnOk r (filled.body.items ≡ a.body.items)
    → OnOk r (IsReply answers acts hosts loopback full site request filled)
site_reply answers acts hosts loopback full site request begun filled (Ok x) a here is_served free answered closes status headers body = record {
  misdirected = λ away. absurd (away here);
  other = λ _ no. absurd (no is_served);
  crowded = λ _ _ is_full. absurd (never_both full is_full free);
  served = λ _ _ _. (
    a,
    answered,
    record {
      status = status;
      headers = headers ∙ ap (λ (h : List (List ℕ × List ℕ)). h ++ answer_fields a.status a.kind) closes;
      body = body;
    },
  );
}
site_reply answers acts hosts loopback full site request begun filled (Err e) a here is_served free answered closes status headers body = tt

-- such a reply, by the version that a desk has been told
pub replied : {S A E : Type 0} (answers : SiteAnswers S) (acts : SiteActs S) (waits : WaitRule) (hosts : Hosts) (others known : ℕ) (loopback full : Bool)
    (site : S) (request : Request (List ℕ)) (filled : Response) (r : Result A E) (P : Type 0) → P
    → IsTooMany waits known others request full → OnOk r (IsReply answers acts hosts loopback full site request filled)
    → OnOk r (P × RepliesAmong answers acts (λ _. known) waits hosts others loopback site (request, filled))
replied answers acts waits hosts others known loopback full site request filled (Ok x) P p is_full reply = (p, (full, is_full, reply))
replied answers acts waits hosts others known loopback full site request filled (Err e) P p is_full reply = tt

-- what a site is given is what it is to see of the request
pub asked_same : (asked : OtherRequest) (loopback : Bool) (request : Request (List ℕ)) → asked.method.now ≡ (head_of request).method
    → asked.path.now ≡ uri_path (head_of request).uri → asked.is_loopback ≡ loopback → asked.headers.now ≡ (head_of request).headers
    → asked_value asked ≡ asked_from loopback request
asked_same asked loopback request method path near headers = rw (method, path, near, headers) refl
