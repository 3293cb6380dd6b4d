-- The fields of lg_fields, as this crate's proofs use them.
use Rattle.std.proofs.Common.{◌≡◌, ℕ, Bool, List, refl, sym, subst, arith}
use Rattle.lg_rules.specs.Meaning.Bounds.{greatest_incarnation}
use Rattle.lg_packet.specs.Meaning.Spelling.{spelled_name, spelled_number, spellable, IsPacket}
use Rattle.lg_packet.proofs.Spellable.{own-packet}
use Rattle.lg_fields.specs.Meaning.Spelled.{spelled_count, spelled_flag, spelled_place, spelled_told, spelled_records, spelled_config, chunk, IsCount, IsCountedText, IsPlace, IsTellable, AreRecords, IsConfigSpelled}
use Rattle.lg_fields.specs.Meaning.Scanned.{count_scan, flag_scan, place_scan, told_scan, records_scan, config_scan, label_scan, word_scan, incarnation_scan, moment_scan, few_scan, chunk_scan, latest_moment}
use Rattle.lg_fields.proofs.Numbers.{count_again, count_takes, bounded_again, bounded_takes, few_again, few_takes}
use Rattle.lg_fields.proofs.Texts.{flag_again, flag_takes}
use Rattle.lg_fields.proofs.PacketParts.{label_again, label_takes, word_again, word_takes, incarnation_again, incarnation_takes, place_again, place_takes}
use Rattle.lg_fields.proofs.Pages.{told_again, told_takes, records_again, records_takes}
use Rattle.lg_fields.proofs.Configs.{config_again, config_takes}
use Rattle.lg_fields.proofs.Chunks.{chunk_again, chunk_takes}
use Rattle.lg_recording.specs.Meaning.Fitting.{IsMoment, IsWord, IsNamed}
use Rattle.lg_recording.specs.Support.Fields.{IsField, same, anything, IsAtMost}

pub count_field : IsField spelled_count same IsCount count_scan
count_field = record { again = count_again; takes = λ bytes x fit e. let t = count_takes bytes x fit e in (t.0, t.1, refl) }

pub few_field : (most : ℕ) → IsCount most → IsField spelled_count same (IsAtMost most) (few_scan most)
few_field most below = record {
  again = λ n rest few. few_again most n rest (omega (arith, below, few)) few;
  takes = λ bytes x fit e. let t = few_takes most bytes x fit e in (t.0, t.2, refl);
}

pub moment_field : IsField spelled_count same IsMoment moment_scan
moment_field = record {
  again = λ n rest fits. bounded_again latest_moment n rest (omega (arith, fits)) fits;
  takes = λ bytes x fit e. let t = bounded_takes latest_moment bytes x fit e in (t.0, t.2, refl);
}

pub flag_field : IsField {X = Bool} spelled_flag same anything flag_scan
flag_field = record { again = λ flag rest fits. flag_again flag rest; takes = λ bytes x fit e. (flag_takes bytes x e, tt, refl) }

pub label_field : IsField {X = List ℕ} spelled_name same IsNamed label_scan
label_field = record { again = label_again; takes = λ bytes x fit e. let t = label_takes bytes x e in (t.0, t.1, refl) }

pub word_field : IsField spelled_number same IsWord word_scan
word_field = record { again = word_again; takes = λ bytes x fit e. let t = word_takes bytes x fit e in (t.0, t.1, refl) }

pub incarnation_field : IsField spelled_number same (IsAtMost greatest_incarnation) incarnation_scan
incarnation_field = record { again = incarnation_again; takes = λ bytes x fit e. let t = incarnation_takes bytes x fit e in (t.0, t.1, refl) }

pub place_field : IsField spelled_place same IsPlace place_scan
place_field = record { again = place_again; takes = λ bytes x fit e. let t = place_takes bytes x fit e in (t.0, t.1, refl) }

pub told_field : IsField spelled_told spellable IsTellable told_scan
told_field = record {
  again = told_again;
  takes = λ bytes x fit e.
      let t = told_takes bytes x fit e in
      let own : spellable x.0 ≡ x.0 = own-packet x.0 t.1 in
      (t.0, subst IsPacket (sym own) t.1, own);
}

pub records_field : IsField spelled_records same AreRecords records_scan
records_field = record { again = records_again; takes = λ bytes x fit e. let t = records_takes bytes x fit e in (t.0, t.1, refl) }

pub config_field : IsField spelled_config same IsConfigSpelled config_scan
config_field = record { again = config_again; takes = λ bytes x fit e. let t = config_takes bytes x fit e in (t.0, t.1, refl) }

-- a chunk by its body
pub chunk_field : IsField {X = List ℕ} chunk same IsCountedText chunk_scan
chunk_field = record { again = chunk_again; takes = λ bytes x fit e. let t = chunk_takes bytes x fit e in (t.0, t.1, refl) }
