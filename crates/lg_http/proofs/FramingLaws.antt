-- Whether a field says that a body follows, by where the fields stand.
use Rattle.std.proofs.Common.{◌≡◌, ℕ, ◌<◌, ◌≤◌, List, length, map, get_or, subst, sym, take, ◌∙◌, ap, arith}
use Rattle.std.specs.List.{AllWithin}
use Rattle.std.proofs.lemmas.List.{get_or-map, length-map}
use Rattle.std.proofs.lemmas.List.Elements.{All-get_or, All-map, All-from_all_within, AllWithin-upto}
use Rattle.httparse.specs.declared.spans.HeaderSpan.{HeaderSpan}
use Rattle.httparse.specs.Spans.{span_bytes, header_bytes}
use Rattle.httparse.specs.declared.spans.RequestSpans.{RequestSpans}
use Rattle.lg_http.specs.declared.gate.TheConstants.{MAX_HEAD}
use Rattle.lg_http.specs.Meaning.Fronts.{IsFraming, AreBodiless, HasNoShort}
use Rattle.lg_http.specs.Support.Only.{IsOnlyRequest}

pub framing_found : (held : List ℕ) (spans : List HeaderSpan) (k : ℕ) (d : HeaderSpan) → k < length spans
    → IsFraming (span_bytes held (get_or spans k d).name) → ¬ (AreBodiless (map (header_bytes held) spans))
framing_found held spans k d within found all =
    let there : k < length (map (header_bytes held) spans) = omega (arith, length-map spans (header_bytes held)) in
    subst (λ (p : List ℕ × List ℕ). ¬ (IsFraming p.0)) (get_or-map (header_bytes held) spans k d (header_bytes held d) within)
    (All-get_or (λ (p : List ℕ × List ℕ). ¬ (IsFraming p.0)) (map (header_bytes held) spans) k (header_bytes held d) there all)
    found

pub framing_none : (held : List ℕ) (spans : List HeaderSpan) (i : ℕ) → length spans ≤ i
    → AllWithin (λ span. ¬ (IsFraming (span_bytes held span.name))) spans 0 i → AreBodiless (map (header_bytes held) spans)
framing_none held spans i past none =
    All-map (λ (p : List ℕ × List ℕ). ¬ (IsFraming p.0)) (header_bytes held) spans
    (All-from_all_within (λ span. ¬ (IsFraming (span_bytes held span.name))) spans
    (AllWithin-upto (λ span. ¬ (IsFraming (span_bytes held span.name))) spans 0 i (length spans) past none))

-- the only head is too long
pub none_is_long : (held : List ℕ) (spans : List HeaderSpan) (places : RequestSpans) → IsOnlyRequest held spans places
    → MAX_HEAD < places.len → HasNoShort held
none_is_long held spans places only long head rest reads few short bodiless =
    let at = only head rest reads few in
    omega (arith, at.len, long, short)

-- a body follows the only head
pub none_has_body : (held : List ℕ) (spans some : List HeaderSpan) (places : RequestSpans) → IsOnlyRequest held spans places
    → some ≡ take places.headers spans → ¬ (AreBodiless (map (header_bytes held) some)) → HasNoShort held
none_has_body held spans some places only taken framed head rest reads few short bodiless =
    let at = only head rest reads few in
    framed (subst (λ fields. AreBodiless fields) (sym (ap (λ (x : List HeaderSpan). map (header_bytes held) x) taken ∙ at.fields)) bodiless)
