-- What a line says, by what decoding it into a row answers.
use Rattle.std.proofs.Common.{◌≡◌, ℕ, ◌/◌, ◌%◌, List, length, Result, Ok, Err, MatchResult, refl, sym, ap, ◌∙◌, arith, inl, inr, true, false}
use Rattle.std.proofs.lemmas.Bool.{cases_eq}
use Rattle.std.specs.Result.{is_err}
use Rattle.hex.specs.Hex.{decode_of, decode_sized}
use Rattle.hex.specs.declared.error.FromHexError.{FromHexError}
use Rattle.hex.specs.declared.error.FromHexError.TheVariants.{OddLength}
use Rattle.hex.proofs.HexLemmas.{decode_of-odd, decode_sized-odd, decode_sized-twice}
use Rattle.lg_packet.specs.Meaning.Reading.{packet_of}
use Rattle.lg_packet.specs.declared.fault.Fault.{Fault}
use Rattle.lg_packet.specs.declared.packet.Packet.{Packet}
use Rattle.lg_commands.specs.Meaning.Spelled.{packet_in, of_bytes, of_packet}
use Rattle.lg_commands.specs.declared.line.LineFault.TheVariants.{NotHex}

-- what stands in the row, where decoding answered
abbrev Reads : List ℕ → List ℕ → Result (Unit {0}) FromHexError → Type 0
Reads text out r = MatchResult r (λ _. packet_in text ≡ of_packet (packet_of out)) (λ _. packet_in text ≡ Err NotHex)

abbrev pub Decodes : List ℕ → ℕ → List ℕ → Result (Unit {0}) FromHexError → Type 0
Decodes text n out r = MatchResult (decode_sized text n) (λ bytes. (r ≡ Ok tt) × (out ≡ bytes)) (λ e. r ≡ Err e)

reads_decoded : (text out : List ℕ) (r : Result (Unit {0}) FromHexError) (d : Result (List ℕ) FromHexError) → decode_of text ≡ d
    → MatchResult d (λ bytes. (r ≡ Ok tt) × (out ≡ bytes)) (λ e. r ≡ Err e) → Reads text out r
unfolding packet_in
reads_decoded text out r (Ok bytes) is h = rw h.0 (ap of_bytes is ∙ ap (λ (b : List ℕ). of_packet (packet_of b)) (sym h.1))
reads_decoded text out r (Err e) is h = rw h (ap of_bytes is)

reads : (text out : List ℕ) (r : Result (Unit {0}) FromHexError) (n : ℕ) → n ≡ length text / 2 → Decodes text n out r → Reads text out r
reads text out r n half h = elim (cases_eq (length text % 2) 1) [
  | inl odd ↦ reads_decoded text out r (Err OddLength) (decode_of-odd text odd) (rw (decode_sized-odd text n odd) at h)
  | inr even ↦ reads_decoded text out r (decode_of text) refl (rw (decode_sized-twice text n (omega arith)) at h)
]

-- the text isn't hex
pub not_hex : (text out : List ℕ) (r : Result (Unit {0}) FromHexError) (n : ℕ) → n ≡ length text / 2 → Decodes text n out r → is_err r ≡ true → Err NotHex ≡ packet_in text
not_hex text out r n half h bad = when r bad (reads text out r n half h)
  where
    when : (r : Result (Unit {0}) FromHexError) → is_err r ≡ true → Reads text out r → Err NotHex ≡ packet_in text
    when (Ok x) bad is = absurd cc
    when (Err e) bad is = sym is

-- the text is the hex of these bytes
pub spelled : (text out : List ℕ) (r : Result (Unit {0}) FromHexError) (n : ℕ) → n ≡ length text / 2 → Decodes text n out r → is_err r ≡ false
    → (d : Result Packet Fault) → packet_of out ≡ d → of_packet d ≡ packet_in text
spelled text out r n half h good d is = when r good (reads text out r n half h)
  where
    when : (r : Result (Unit {0}) FromHexError) → is_err r ≡ false → Reads text out r → of_packet d ≡ packet_in text
    when (Ok x) good so = sym (so ∙ ap of_packet is)
    when (Err e) good is = absurd cc
