-- A file that gives no text has no keys that are told to be wrong.
use Rattle.std.proofs.Common.{◌≡◌, ℕ, List, Err, subst}
use Rattle.lg_seal.specs.declared.fault.KeyFault.{KeyFault}
use Rattle.lg_seal.specs.Meaning.Reading.{keys_of}
use Rattle.lg_run.specs.declared.key_file.NoKeys.{NoKeys}
use Rattle.lg_run.specs.declared.key_file.NoKeys.TheVariants as none
use Rattle.lg_run.specs.Meaning.KeyTelling.{IsTextless}

pub textless : (given : NoKeys) → IsTextless given → (fault : KeyFault) → given ≡ none.Text fault → (text : List ℕ) × (keys_of text ≡ Err fault)
textless given is fault same = absurd (subst IsTextless same is)
