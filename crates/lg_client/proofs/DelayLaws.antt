-- After how many seconds an answer says to ask again, by what is read of its head.
use Rattle.std.proofs.Common.{◌≡◌, ◌≢◌, ℕ, false, List, [], ◌∷◌, map, take, drop, Option, Some, None, Err, inl, inr, refl, sym, ap, subst, ◌∙◌, append-nil}
use Rattle.httparse.specs.declared.spans.HeaderSpan.{HeaderSpan}
use Rattle.httparse.specs.declared.spans.ResponseSpans.{ResponseSpans}
use Rattle.httparse.specs.Grammar.{HasNoResponse, ResponseHead, status_code}
use Rattle.httparse.specs.Spans.{IsResponseOf, ResponseOverflows, header_bytes, name_and_value}
use Rattle.httparse.proofs.GrammarLemmas.{response_unique}
use Rattle.lg_client.specs.Meaning.Answers.{IsHttpAnswer, most_fields}
use Rattle.lg_client.specs.Meaning.Questions.{is_code_of}
use Rattle.lg_client.specs.Meaning.Waiting.{IsTurnedDown, SaysLater, delay_said, unavailable}
use Rattle.lg_client.specs.Support.Receiving.{HeadSays, IsEndBehind, end_behind, IsHeard, IsReceived, IsTurnedDownBy}
use Rattle.lg_client.specs.declared.unheard.Delay.TheVariants.{Closed, Told}
use Rattle.lg_client.specs.declared.unheard.Unheard.{Unheard}
use Rattle.lg_client.specs.declared.unheard.Unheard.TheVariants.{Lacking, Later, NoMemory, Wrong}
use Rattle.lg_client.proofs.AnswerLaws.{nothing_cut, other_refused}

-- a whole head
pub head_says : (bytes : List ℕ) (headers some : List HeaderSpan) (r : ResponseSpans) (said : Option ℕ) → IsResponseOf bytes headers r → some ≡ take r.headers headers
    → said ≡ delay_said (map (header_bytes bytes) some) → HeadSays bytes said
head_says bytes headers some r said of taken is code body it =
    let same = response_unique bytes of.0 it.head (drop r.len bytes) body of.1.reads it.reads in
    ap (λ (h : ResponseHead). delay_said (map name_and_value h.fields)) (sym same.0)
    ∙ ap delay_said (sym of.1.fields)
    ∙ ap (λ (fields : List HeaderSpan). delay_said (map (header_bytes bytes) fields)) (sym taken)
    ∙ sym is

-- no head
pub headless : (bytes : List ℕ) (said : Option ℕ) → HasNoResponse bytes → HeadSays bytes said
headless bytes said none code body it = absurd (none it.head body it.reads)

-- too many fields
pub overfull : (bytes : List ℕ) (said : Option ℕ) → ResponseOverflows most_fields bytes → HeadSays bytes said
overfull bytes said over code body it =
    absurd (other_refused bytes over [] code body (subst (λ (b : List ℕ). IsHttpAnswer b code body) (sym (append-nil bytes)) it))

-- all three, for the code
pub ruleset said_by_heads = (head_says, headless, overfull)

-- bytes have one status code
pub one_code : (bytes : List ℕ) (code other : ℕ) (body more : List ℕ) → IsHttpAnswer bytes code body → IsHttpAnswer bytes other more → code ≡ other
one_code bytes code other body more a b =
    let same = response_unique bytes a.head b.head body more a.reads b.reads in
    a.is ∙ ap status_code same.0 ∙ sym b.is

-- an answer that isn't allowed, with another code
pub turned_down : (allowed bytes : List ℕ) (code : ℕ) (body : List ℕ) → IsHttpAnswer bytes code body → is_code_of allowed code ≡ false → code ≢ unavailable
    → IsTurnedDown allowed bytes
turned_down allowed bytes code body it disallows other = record {
  disallowed = record { code = code; body = body; is = it; disallows = disallows };
  final = λ seconds later. other (one_code bytes code unavailable body later.body it later.is);
}

-- or with this one, and its head says no delay
pub turned_down_silently : (allowed bytes : List ℕ) (body : List ℕ) → IsHttpAnswer bytes unavailable body → is_code_of allowed unavailable ≡ false → HeadSays bytes None
    → IsTurnedDown allowed bytes
turned_down_silently allowed bytes body it disallows none = record {
  disallowed = record { code = unavailable; body = body; is = it; disallows = disallows };
  final = λ seconds later. let no = none unavailable later.body later.is in
      let some = later.says in
      absurd cc;
}

-- or its head says one
pub says_later : (bytes : List ℕ) (body : List ℕ) (seconds : ℕ) → IsHttpAnswer bytes unavailable body → HeadSays bytes (Some seconds) → SaysLater bytes seconds
says_later bytes body seconds it says = record { body = body; is = it; says = says unavailable body it }

-- what was received, whatever is allowed
pub heard_from : (allowed : List ℕ) (why : Unheard) → IsReceived (Err why) → IsHeard allowed (Err why)
heard_from allowed (Later (Told seconds)) received = absurd received
heard_from allowed (Later Closed) received = tt
heard_from allowed Lacking received = received
heard_from allowed Wrong received = inl received
heard_from allowed NoMemory received = tt

-- the end of a connection
pub ends_behind : (bytes : List ℕ) → IsEndBehind bytes (end_behind bytes)
ends_behind [] = refl
ends_behind (byte ∷ bytes) = tt

-- no more bytes came
pub received_end : (bytes : List ℕ) (why : Unheard) → IsEndBehind bytes why → IsReceived (Err why)
received_end bytes (Later (Told seconds)) end = absurd end
received_end bytes (Later Closed) end = tt
received_end bytes Lacking end = ([], nothing_cut)
received_end bytes Wrong end = absurd end
received_end bytes NoMemory end = tt

-- an answer that isn't allowed
pub heard_turned_down : (allowed : List ℕ) (why : Unheard) → IsTurnedDownBy allowed why → IsHeard allowed (Err why)
heard_turned_down allowed (Later (Told seconds)) down = down
heard_turned_down allowed (Later Closed) down = absurd down
heard_turned_down allowed Lacking down = absurd down
heard_turned_down allowed Wrong down = inr down
heard_turned_down allowed NoMemory down = absurd down
