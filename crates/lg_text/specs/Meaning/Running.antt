-- What a run takes from a reader, and what it leaves in a writer.
use Rattle.std.specs.Prelude.{◌≡◌, ◌≢◌, ℕ, ◌+◌, ◌<◌, ◌≤◌, List, ◌++◌, length, true, false, Option, Result}
use Rattle.std.specs.Prelude.{IfErr, IfOk, IfSome, OnOk}
use Rattle.std.specs.Result.{IsErrAnd}
use Rattle.std.specs.Io.KnownBytes.{Appends, Consumes, IsAtEnd}
use Rattle.lg_text.specs.Meaning.Faults.{is_unwritten}
use Rattle.lg_text.specs.Meaning.Ranges.{most_input}
use Rattle.lg_text.specs.declared.end.RunEnd.{RunEnd}
use Rattle.lg_text.specs.declared.fault.InputFault.TheVariants.{TooLong}
use Rattle.lg_text.specs.declared.fault.RunFault.{RunFault}
use Rattle.lg_text.specs.declared.fault.RunFault.TheVariants.{Read}

-- If a reader tells its bytes, it loses at most `limit` of them, from the front.
pub record TakesAtMost (limit : ℕ) (old new : Option (List ℕ)) : Type 0 where
  pub bytes : List ℕ
  pub few : length bytes ≤ limit
  pub taken : Consumes old new bytes

-- If a reader tells its bytes, it loses more than `limit` of them, from the front.
pub record TakesMore (limit : ℕ) (old new : Option (List ℕ)) : Type 0 where
  pub bytes : List ℕ
  pub many : limit < length bytes
  pub taken : Consumes old new bytes

-- An input that isn't too long is read to its end.
pub record ReadsWhole (left rest : Option (List ℕ)) : Type 0 where
  pub input : List ℕ
  pub few : length input ≤ most_input
  pub read : Consumes left rest input
  pub whole : IsAtEnd rest

-- If a writer tells its bytes, they grow by a beginning of a text: by none of it, a part or all.
pub record AppendsFront (held holds : Option (List ℕ)) (text : List ℕ) : Type 0 where
  pub front : List ℕ
  pub rest : List ℕ
  pub is : text ≡ front ++ rest
  pub taken : Appends held holds front

-- An input that isn't too long is read to its end, the text that it gives is written, and the end is the one that it
-- gives.
pub record RunsInput
    (text_of : List ℕ → List ℕ) (end_of : List ℕ → RunEnd) (left rest held holds : Option (List ℕ)) (end : RunEnd)
    : Type 0 where
  pub input : List ℕ
  pub few : length input ≤ most_input
  pub read : Consumes left rest input
  pub whole : IsAtEnd rest
  pub written : Appends held holds (text_of input)
  pub ends : end ≡ end_of input

-- What a run over a reader and a writer promises, if an input gives a text and an end. Before the run the reader has
-- the bytes `left` and the writer has taken the bytes `held`. After it these are `rest` and `holds`. A stream that
-- doesn't tell its bytes has none of them.
pub record RunsWhole
    {W : Type 0} (text_of : List ℕ → List ℕ) (end_of : List ℕ → RunEnd) (left rest : Option (List ℕ)) (before after : W)
    (held holds : Option (List ℕ)) (result : Result RunEnd RunFault)
    : Type 0 where
  -- If the reader tells its bytes, a run that succeeds writes their text, its end is theirs, and they aren't too many.
  pub text_written : OnOk result (IfSome left (λ input. Appends held holds (text_of input)))
  pub end_given : IfOk result (λ end. IfSome left (λ input. end ≡ end_of input))
  pub input_fits : OnOk result (IfSome left (λ input. length input ≤ most_input))
  -- With any reader, it writes the text of what it read, and it read the input to its end.
  pub input_run : IfOk result (RunsInput text_of end_of left rest held holds)
  -- However it ends, it takes at most a byte more than the longest input has.
  pub taken : TakesAtMost (most_input + 1) left rest
  -- A run that fails writes nothing, unless it is the writing that fails; then it read the whole input.
  pub unwritten : IfErr result (λ fault. is_unwritten fault ≡ false → after ≡ before)
  pub read_before_writing : IfErr result (λ fault. is_unwritten fault ≡ true → ReadsWhole left rest)
  -- It takes a byte past the longest input if, and only if, the fault is that the input is too long.
  pub taken_within : IfErr result (λ fault. fault ≢ Read TooLong → TakesAtMost most_input left rest)
  pub taken_past : IfErr result (λ fault. fault ≡ Read TooLong → TakesMore most_input left rest)
  -- So it writes nothing for an input that is too long.
  pub too_long : IfSome left (λ input. most_input < length input
      → (after ≡ before) × IsErrAnd result (λ fault. is_unwritten fault ≡ false))
