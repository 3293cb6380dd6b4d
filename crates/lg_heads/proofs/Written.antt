-- The parts of a head, put behind a text one after another.
use Rattle.std.proofs.Common.{◌≡◌, ℕ, List, ◌++◌, append_assoc}
use Rattle.lg_packet.specs.Meaning.Spelling.{spelled_name}
use Rattle.lg_fields.specs.Meaning.Spelled.{spelled_count, spelled_text, spelled_config}
use Rattle.lg_heads.specs.Meaning.Heads.{HeadValue, spelled_before, spelled_head_body}

joined : (text a b c d e f g h : List ℕ) → (((((((text ++ a) ++ b) ++ c) ++ d) ++ e) ++ f) ++ g) ++ h ≡ text ++ (a ++ (b ++ (c ++ (d ++ (e ++ (f ++ (g ++ h)))))))
joined text a b c d e f g h = simp append_assoc

pub body_written : (v : HeadValue) (now : ℕ) (text t1 t2 t3 t4 t5 t6 t7 t8 : List ℕ)
    → now ≡ v.now → t1 ≡ text ++ spelled_name v.name → t2 ≡ t1 ++ spelled_config v.config → t3 ≡ t2 ++ spelled_text v.text → t4 ≡ t3 ++ spelled_text v.program
    → t5 ≡ t4 ++ spelled_count v.wall_ms → t6 ≡ t5 ++ spelled_count now → t7 ≡ t6 ++ spelled_count v.first → t8 ≡ t7 ++ spelled_before v.before → t8 ≡ text ++ spelled_head_body v
unfolding spelled_head_body
body_written v now text t1 t2 t3 t4 t5 t6 t7 t8 en e1 e2 e3 e4 e5 e6 e7 e8 =
    rw (e8, e7, e6, e5, e4, e3, e2, e1, en) (joined text (spelled_name v.name) (spelled_config v.config) (spelled_text v.text) (spelled_text v.program) (spelled_count v.wall_ms) (spelled_count v.now) (spelled_count v.first) (spelled_before v.before))
