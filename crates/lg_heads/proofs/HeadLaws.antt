-- Heads: what is read is spelled so, and what is spelled so is read again.
use Rattle.std.proofs.Common.{◌≡◌, ℕ, ◌≤◌, ◌<◌, Bool, true, false, cond, eqb, List, [], ◌∷◌, ◌++◌, length, Option, Some, None, Result, Ok, Err, refl, sym, ap, subst, ◌∙◌, append_assoc, append-nil, arith}
use Rattle.std.specs.List.{AllByRecursion, flat_map}
use Rattle.std.proofs.lemmas.Bool.{eqb-true, eqb-false, ne_eqb}
use Rattle.std.proofs.lemmas.List.{nil_from_length}
use Rattle.lg_rules.specs.declared.claim.Claim.{Claim}
use Rattle.lg_timing.specs.declared.config.Config.{Config}
use Rattle.lg_packet.specs.Meaning.Bytes.{IsByte}
use Rattle.lg_packet.specs.Meaning.Spelling.{spelled_name, spelled_number}
use Rattle.lg_fields.specs.declared.fault.FieldFault.{FieldFault}
use Rattle.lg_fields.specs.declared.fault.FieldFault.TheVariants as faults
use Rattle.lg_fields.specs.Meaning.Spelled.{spelled_count, spelled_flag, spelled_text, spelled_records, spelled_config, IsCount, IsCountedText, IsConfigSpelled, AreRecords}
use Rattle.lg_fields.specs.Meaning.Scanned.{◌>>=◌, config_scan, count_scan, flag_scan, incarnation_scan, moment_scan, text_scan}
use Rattle.lg_fields.proofs.Texts.{text_again, text_takes}
use Rattle.lg_detector.specs.declared.standing.Standing.{Standing}
use Rattle.lg_recording.specs.Meaning.Fitting.{IsMoment, IsNamed}
use Rattle.lg_recording.specs.Meaning.Scanning.{each_scan, whole_of}
use Rattle.lg_recording.specs.Support.Fields.{IsField, same}
use Rattle.lg_recording.proofs.FieldLaws.{count_field, few_field, moment_field, flag_field, label_field, incarnation_field, records_field, config_field}
use Rattle.lg_recording.proofs.Parts.{joined, good, same_ok, stepped, onward, each_again, each_takes, same_each}
use Rattle.lg_heads.specs.Meaning.Heads.{BeforeValue, HeadValue, spelled_standing, spelled_row, spelled_table, spelled_known, spelled_before, spelled_head_body}
use Rattle.lg_heads.specs.Meaning.Fitting.{most_rows, IsRow, AreRowsSpelled, IsStandingSpelled, IsKnownSpelled, IsBeforeSpelled, IsHeadSpelled}
use Rattle.lg_heads.specs.Meaning.Scanning.{only_row, row_scan, rows_scan, table_scan, own_standing_scan, known_before_scan, some_scan, flagged_scan, before_scan, head_scan, head_in}

text_field : IsField {X = List ℕ} spelled_text same IsCountedText text_scan
text_field = record { again = text_again; takes = λ bytes x fit e. let t = text_takes bytes x fit e in (t.0, t.1, refl) }

not_zero : (n : ℕ) → 0 < n → eqb n 0 ≡ false
not_zero n some = ne_eqb n 0 (omega (arith, some))

some_of : (n : ℕ) → eqb n 0 ≡ false → 0 < n
some_of n e = omega (arith, eqb-false n 0 e)

-- ---- records

row_again : (row : Claim) (rest : List ℕ) → IsRow row → row_scan (spelled_row row ++ rest) ≡ Ok (row, rest)
unfolding row_scan
row_again row rest fit =
    let few : length (row ∷ []) ≤ 12 = omega arith in
    rw (records_field.again (row ∷ []) rest (record { few = few; each = (fit, tt) })) refl

abbrev ReadsRow : List ℕ → Claim × List ℕ → Type 0
ReadsRow bytes x = (bytes ≡ spelled_row x.0 ++ x.1) × IsRow x.0 × (x.0 ≡ x.0)

row_takes : (bytes : List ℕ) (x : Claim × List ℕ) → AllByRecursion IsByte bytes → row_scan bytes ≡ Ok x → ReadsRow bytes x
unfolding row_scan
row_takes bytes x fit e =
    let rows = stepped records_field (λ rows. only_row rows.0 rows.1) bytes x fit e in
    only rows.value rows.rest rows.whole rows.fits rows.then
  where
    only : (rows : List Claim) (rest : List ℕ) → bytes ≡ spelled_records rows ++ rest → AreRecords rows → only_row rows rest ≡ Ok x → ReadsRow bytes x
    only [] rest whole fits k = absurd cc
    only (row ∷ []) rest whole fits k = subst (λ (y : Claim × List ℕ). ReadsRow bytes y) (same_ok (row, rest) x k) (whole, fits.each.0, refl)
    only (row ∷ other ∷ others) rest whole fits k = absurd cc

row_field : IsField {X = Claim} spelled_row same IsRow row_scan
row_field = record { again = row_again; takes = row_takes }

-- ---- a table

most_fits : IsCount most_rows
most_fits = omega arith

table_again : (rows : List Claim) (rest : List ℕ) → AreRowsSpelled rows → table_scan (spelled_table rows ++ rest) ≡ Ok (rows, rest)
unfolding table_scan spelled_table
table_again rows rest fit =
    let few = few_field most_rows most_fits in
    let all : each_scan row_scan (length rows) (flat_map spelled_row rows ++ rest) ≡ Ok (rows, rest) = each_again row_field rows rest fit.each ∙ ap (λ (rs : List Claim). Ok (rs, rest)) (same_each rows) in
    rw (append_assoc (spelled_count (length rows)) (flat_map spelled_row rows) rest, few.again (length rows) (flat_map spelled_row rows ++ rest) fit.few, not_zero (length rows) fit.some, all) refl

table_takes : (bytes : List ℕ) (x : List Claim × List ℕ) → AllByRecursion IsByte bytes → table_scan bytes ≡ Ok x
    → (bytes ≡ spelled_table x.0 ++ x.1) × AreRowsSpelled x.0 × (x.0 ≡ x.0)
unfolding table_scan spelled_table
table_takes bytes x fit e =
    let count = stepped (few_field most_rows most_fits) (λ count. rows_scan count.0 count.1) bytes x fit e in
    some count.value count.rest count.whole count.fits count.are_bytes (eqb count.value 0) refl count.then
  where
    some : (n : ℕ) (rest : List ℕ) → bytes ≡ spelled_count n ++ rest → n ≤ most_rows → AllByRecursion IsByte rest → (none : Bool) → eqb n 0 ≡ none
        → cond none (Err faults.Count) (each_scan row_scan n rest) ≡ Ok x → (bytes ≡ spelled_table x.0 ++ x.1) × AreRowsSpelled x.0 × (x.0 ≡ x.0)
    some n rest whole few fit true is k = absurd cc
    some n rest whole few fit false is k =
        let took = each_takes row_field n rest x fit k in
        let counted : bytes ≡ spelled_count (length x.0) ++ rest = whole ∙ ap (λ (m : ℕ). spelled_count m ++ rest) (sym took.count) in (
          joined bytes (spelled_count (length x.0)) rest (flat_map spelled_row x.0) x.1 counted took.whole,
          record { some = subst (λ (m : ℕ). 0 < m) (sym took.count) (some_of n is); few = subst (λ (m : ℕ). m ≤ most_rows) (sym took.count) few; each = took.each },
          refl,
        )

table_field : IsField {X = List Claim} spelled_table same AreRowsSpelled table_scan
table_field = record { again = table_again; takes = table_takes }

-- ---- what was known before

standing_again : (s : Standing) (rest : List ℕ) → IsStandingSpelled s → own_standing_scan (spelled_standing s ++ rest) ≡ Ok (s, rest)
unfolding own_standing_scan spelled_standing
standing_again s rest fit =
    rw (
      append_assoc (spelled_count s.score) (spelled_number s.number ++ spelled_flag s.ousted) rest,
      append_assoc (spelled_number s.number) (spelled_flag s.ousted) rest,
      count_field.again s.score (spelled_number s.number ++ (spelled_flag s.ousted ++ rest)) fit.score,
      incarnation_field.again s.number (spelled_flag s.ousted ++ rest) fit.number,
      flag_field.again s.ousted rest tt,
    ) refl

abbrev ReadsStanding : List ℕ → Standing × List ℕ → Type 0
ReadsStanding bytes x = (bytes ≡ spelled_standing x.0 ++ x.1) × IsStandingSpelled x.0 × (x.0 ≡ x.0)

abbrev stood : ℕ → ℕ → Bool → Standing
stood score number ousted = record { score = score; number = number; ousted = ousted }

standing_takes : (bytes : List ℕ) (x : Standing × List ℕ) → AllByRecursion IsByte bytes → own_standing_scan bytes ≡ Ok x → ReadsStanding bytes x
unfolding own_standing_scan spelled_standing
standing_takes bytes x fit e =
    let score = stepped count_field (λ score. incarnation_scan score.1 >>= λ number. flag_scan number.1 >>= λ ousted. Ok (stood score.0 number.0 ousted.0, ousted.1)) bytes x fit e in
    let number = stepped incarnation_field (λ number. flag_scan number.1 >>= λ ousted. Ok (stood score.value number.0 ousted.0, ousted.1)) score.rest x score.are_bytes score.then in
    let ousted = stepped flag_field (λ ousted. Ok (stood score.value number.value ousted.0, ousted.1)) number.rest x number.are_bytes number.then in
    let others : score.rest ≡ (spelled_number number.value ++ spelled_flag ousted.value) ++ ousted.rest =
    joined score.rest (spelled_number number.value) number.rest (spelled_flag ousted.value) ousted.rest number.whole ousted.whole in
    subst (λ (y : Standing × List ℕ). ReadsStanding bytes y) (same_ok (stood score.value number.value ousted.value, ousted.rest) x ousted.then)
    (joined bytes (spelled_count score.value) score.rest (spelled_number number.value ++ spelled_flag ousted.value) ousted.rest score.whole others, record { score = score.fits; number = number.fits }, refl)

standing_field : IsField {X = Standing} spelled_standing same IsStandingSpelled own_standing_scan
standing_field = record { again = standing_again; takes = standing_takes }

known_again : (b : BeforeValue) (rest : List ℕ) → IsKnownSpelled b → known_before_scan (spelled_known b ++ rest) ≡ Ok (b, rest)
unfolding known_before_scan
known_again b rest fit =
    rw (append_assoc (spelled_standing b.standing) (spelled_table b.table) rest, standing_field.again b.standing (spelled_table b.table ++ rest) fit.standing, table_field.again b.table rest fit.table) refl

abbrev ReadsKnown : List ℕ → BeforeValue × List ℕ → Type 0
ReadsKnown bytes x = (bytes ≡ spelled_known x.0 ++ x.1) × IsKnownSpelled x.0 × (x.0 ≡ x.0)

abbrev knew : Standing → List Claim → BeforeValue
knew standing table = record { standing = standing; table = table }

known_takes : (bytes : List ℕ) (x : BeforeValue × List ℕ) → AllByRecursion IsByte bytes → known_before_scan bytes ≡ Ok x → ReadsKnown bytes x
unfolding known_before_scan
known_takes bytes x fit e =
    let standing = stepped standing_field (λ standing. table_scan standing.1 >>= λ table. Ok (knew standing.0 table.0, table.1)) bytes x fit e in
    let table = stepped table_field (λ table. Ok (knew standing.value table.0, table.1)) standing.rest x standing.are_bytes standing.then in
    subst (λ (y : BeforeValue × List ℕ). ReadsKnown bytes y) (same_ok (knew standing.value table.value, table.rest) x table.then)
    (joined bytes (spelled_standing standing.value) standing.rest (spelled_table table.value) table.rest standing.whole table.whole, record { standing = standing.fits; table = table.fits }, refl)

known_field : IsField {X = BeforeValue} spelled_known same IsKnownSpelled known_before_scan
known_field = record { again = known_again; takes = known_takes }

before_again : (first : ℕ) (before : Option BeforeValue) (rest : List ℕ) → IsBeforeSpelled first before → before_scan first (spelled_before before ++ rest) ≡ Ok (before, rest)
unfolding before_scan spelled_before
before_again first None rest fit = rw fit refl
before_again first (Some b) rest fit = rw (not_zero first fit.0, known_field.again b rest fit.1) refl

abbrev ReadsBefore : ℕ → List ℕ → Option BeforeValue × List ℕ → Type 0
ReadsBefore first bytes x = (bytes ≡ spelled_before x.0 ++ x.1) × IsBeforeSpelled first x.0 × (x.0 ≡ x.0)

moved : (first : ℕ) (bytes : List ℕ) (before : Option BeforeValue) (rest : List ℕ) (x : Option BeforeValue × List ℕ) → good (before, rest) ≡ good x → ReadsBefore first bytes (before, rest) → ReadsBefore first bytes x
moved first bytes before rest x is reads = subst (λ (y : Option BeforeValue × List ℕ). ReadsBefore first bytes y) (same_ok (before, rest) x is) reads

abbrev nothing : List ℕ → Result (Option BeforeValue × List ℕ) FieldFault
nothing rest = Ok (None, rest)

before_takes : (first : ℕ) (bytes : List ℕ) (x : Option BeforeValue × List ℕ) → AllByRecursion IsByte bytes → before_scan first bytes ≡ Ok x → ReadsBefore first bytes x
unfolding before_scan spelled_before
before_takes first bytes x fit e =
    let flag = stepped flag_field (λ flag. flagged_scan flag.0 first flag.1) bytes x fit e in
    flagged flag.value flag.rest flag.whole flag.are_bytes flag.then
  where
    known : (rest : List ℕ) → bytes ≡ 1 ∷ rest → AllByRecursion IsByte rest → 0 < first → some_scan rest ≡ Ok x → ReadsBefore first bytes x
    known rest whole fit some k =
        let b = stepped known_field (λ known. Ok (Some known.0, known.1)) rest x fit k in
        moved first bytes (Some b.value) b.rest x b.then (whole ∙ ap (λ (t : List ℕ). 1 ∷ t) b.whole, (some, b.fits), refl)

    off : (rest : List ℕ) → bytes ≡ 0 ∷ rest → (none : Bool) → eqb first 0 ≡ none → cond none (nothing rest) (Err faults.Count) ≡ Ok x → ReadsBefore first bytes x
    off rest whole true is k = moved first bytes None rest x k (whole, eqb-true first 0 is, refl)
    off rest whole false is k = absurd cc

    on : (rest : List ℕ) → bytes ≡ 1 ∷ rest → AllByRecursion IsByte rest → (none : Bool) → eqb first 0 ≡ none → cond none (Err faults.Count) (some_scan rest) ≡ Ok x → ReadsBefore first bytes x
    on rest whole fit true is k = absurd cc
    on rest whole fit false is k = known rest whole fit (some_of first is) k

    flagged : (flag : Bool) (rest : List ℕ) → bytes ≡ spelled_flag flag ++ rest → AllByRecursion IsByte rest → flagged_scan flag first rest ≡ Ok x → ReadsBefore first bytes x
    flagged false rest whole fit k = off rest whole (eqb first 0) refl k
    flagged true rest whole fit k = on rest whole fit (eqb first 0) refl k

before_field : (first : ℕ) → IsField {X = Option BeforeValue} spelled_before same (IsBeforeSpelled first) (before_scan first)
before_field first = record { again = before_again first; takes = before_takes first }

-- ---- the whole

head_again : (h : HeadValue) (rest : List ℕ) → IsHeadSpelled h → head_scan (spelled_head_body h ++ rest) ≡ Ok (h, rest)
unfolding head_scan spelled_head_body
head_again h rest fit =
    rw (
      append_assoc (spelled_name h.name) (spelled_config h.config ++ (spelled_text h.text ++ (spelled_text h.program ++ (spelled_count h.wall_ms ++ (spelled_count h.now ++ (spelled_count h.first ++ (spelled_before h.before))))))) rest,
      append_assoc (spelled_config h.config) (spelled_text h.text ++ (spelled_text h.program ++ (spelled_count h.wall_ms ++ (spelled_count h.now ++ (spelled_count h.first ++ (spelled_before h.before)))))) rest,
      append_assoc (spelled_text h.text) (spelled_text h.program ++ (spelled_count h.wall_ms ++ (spelled_count h.now ++ (spelled_count h.first ++ (spelled_before h.before))))) rest,
      append_assoc (spelled_text h.program) (spelled_count h.wall_ms ++ (spelled_count h.now ++ (spelled_count h.first ++ (spelled_before h.before)))) rest,
      append_assoc (spelled_count h.wall_ms) (spelled_count h.now ++ (spelled_count h.first ++ (spelled_before h.before))) rest,
      append_assoc (spelled_count h.now) (spelled_count h.first ++ (spelled_before h.before)) rest,
      append_assoc (spelled_count h.first) (spelled_before h.before) rest,
      label_field.again h.name (spelled_config h.config ++ (spelled_text h.text ++ (spelled_text h.program ++ (spelled_count h.wall_ms ++ (spelled_count h.now ++ (spelled_count h.first ++ (spelled_before h.before ++ rest))))))) fit.name,
      config_field.again h.config (spelled_text h.text ++ (spelled_text h.program ++ (spelled_count h.wall_ms ++ (spelled_count h.now ++ (spelled_count h.first ++ (spelled_before h.before ++ rest)))))) fit.config,
      text_field.again h.text (spelled_text h.program ++ (spelled_count h.wall_ms ++ (spelled_count h.now ++ (spelled_count h.first ++ (spelled_before h.before ++ rest))))) fit.text,
      text_field.again h.program (spelled_count h.wall_ms ++ (spelled_count h.now ++ (spelled_count h.first ++ (spelled_before h.before ++ rest)))) fit.program,
      count_field.again h.wall_ms (spelled_count h.now ++ (spelled_count h.first ++ (spelled_before h.before ++ rest))) fit.wall_ms,
      moment_field.again h.now (spelled_count h.first ++ (spelled_before h.before ++ rest)) fit.now,
      count_field.again h.first (spelled_before h.before ++ rest) fit.first,
      (before_field h.first).again h.before rest fit.before,
    ) refl

abbrev made : List ℕ → Config → List ℕ → List ℕ → ℕ → ℕ → ℕ → Option BeforeValue → HeadValue
made name config text program wall_ms now first before =
    record { name = name; config = config; text = text; program = program; wall_ms = wall_ms; now = now; first = first; before = before }

regrouped : (a b c d e f g h rest : List ℕ) → (((((((([] ++ a) ++ b) ++ c) ++ d) ++ e) ++ f) ++ g) ++ h) ++ rest ≡ (a ++ (b ++ (c ++ (d ++ (e ++ (f ++ (g ++ h))))))) ++ rest
regrouped a b c d e f g h rest = simp append_assoc

abbrev ReadsHead : List ℕ → HeadValue × List ℕ → Type 0
ReadsHead bytes x = (bytes ≡ spelled_head_body x.0 ++ x.1) × IsHeadSpelled x.0 × (x.0 ≡ x.0)

-- the eight parts, one behind the other
finished : (bytes rest : List ℕ) (n : List ℕ) (c : Config) (t p : List ℕ) (w m f : ℕ) (b : Option BeforeValue) (x : HeadValue × List ℕ)
    → bytes ≡ (((((((([] ++ spelled_name n) ++ spelled_config c) ++ spelled_text t) ++ spelled_text p) ++ spelled_count w) ++ spelled_count m) ++ spelled_count f) ++ spelled_before b) ++ rest
    → IsNamed n → IsConfigSpelled c → IsCountedText t → IsCountedText p → IsCount w → IsMoment m → IsCount f → IsBeforeSpelled f b → good (made n c t p w m f b, rest) ≡ good x → ReadsHead bytes x
unfolding spelled_head_body
finished bytes rest n c t p w m f b x whole fn fc ft fp fw fm ff fb is =
    let all : bytes ≡ spelled_head_body (made n c t p w m f b) ++ rest =
    whole ∙ regrouped (spelled_name n) (spelled_config c) (spelled_text t) (spelled_text p) (spelled_count w) (spelled_count m) (spelled_count f) (spelled_before b) rest in
    subst (λ (y : HeadValue × List ℕ). ReadsHead bytes y) (same_ok (made n c t p w m f b, rest) x is)
    (all, record { name = fn; config = fc; text = ft; program = fp; wall_ms = fw; now = fm; first = ff; before = fb }, refl)

head_takes : (bytes : List ℕ) (x : HeadValue × List ℕ) → AllByRecursion IsByte bytes → head_scan bytes ≡ Ok x → ReadsHead bytes x
unfolding head_scan
head_takes bytes x fit e =
    onward label_field (ReadsHead bytes x) [] bytes bytes (λ n. config_scan n.1 >>= λ c. text_scan c.1 >>= λ t. text_scan t.1 >>= λ p. count_scan p.1 >>= λ w. moment_scan w.1 >>= λ m. count_scan m.1 >>= λ f. before_scan f.0 f.1 >>= λ b. Ok (made n.0 c.0 t.0 p.0 w.0 m.0 f.0 b.0, b.1)) x refl fit e
    (λ n r1 w1 fn o1 b1 e1. onward config_field (ReadsHead bytes x) ([] ++ spelled_name n) bytes r1 (λ c. text_scan c.1 >>= λ t. text_scan t.1 >>= λ p. count_scan p.1 >>= λ w. moment_scan w.1 >>= λ m. count_scan m.1 >>= λ f. before_scan f.0 f.1 >>= λ b. Ok (made n c.0 t.0 p.0 w.0 m.0 f.0 b.0, b.1)) x w1 b1 e1
    (λ c r2 w2 fc o2 b2 e2. onward text_field (ReadsHead bytes x) (([] ++ spelled_name n) ++ spelled_config c) bytes r2 (λ t. text_scan t.1 >>= λ p. count_scan p.1 >>= λ w. moment_scan w.1 >>= λ m. count_scan m.1 >>= λ f. before_scan f.0 f.1 >>= λ b. Ok (made n c t.0 p.0 w.0 m.0 f.0 b.0, b.1)) x w2 b2 e2
    (λ t r3 w3 ft o3 b3 e3. onward text_field (ReadsHead bytes x) ((([] ++ spelled_name n) ++ spelled_config c) ++ spelled_text t) bytes r3 (λ p. count_scan p.1 >>= λ w. moment_scan w.1 >>= λ m. count_scan m.1 >>= λ f. before_scan f.0 f.1 >>= λ b. Ok (made n c t p.0 w.0 m.0 f.0 b.0, b.1)) x w3 b3 e3
    (λ p r4 w4 fp o4 b4 e4. onward count_field (ReadsHead bytes x) (((([] ++ spelled_name n) ++ spelled_config c) ++ spelled_text t) ++ spelled_text p) bytes r4 (λ w. moment_scan w.1 >>= λ m. count_scan m.1 >>= λ f. before_scan f.0 f.1 >>= λ b. Ok (made n c t p w.0 m.0 f.0 b.0, b.1)) x w4 b4 e4
    (λ w r5 w5 fw o5 b5 e5. onward moment_field (ReadsHead bytes x) ((((([] ++ spelled_name n) ++ spelled_config c) ++ spelled_text t) ++ spelled_text p) ++ spelled_count w) bytes r5 (λ m. count_scan m.1 >>= λ f. before_scan f.0 f.1 >>= λ b. Ok (made n c t p w m.0 f.0 b.0, b.1)) x w5 b5 e5
    (λ m r6 w6 fm o6 b6 e6. onward count_field (ReadsHead bytes x) (((((([] ++ spelled_name n) ++ spelled_config c) ++ spelled_text t) ++ spelled_text p) ++ spelled_count w) ++ spelled_count m) bytes r6 (λ f. before_scan f.0 f.1 >>= λ b. Ok (made n c t p w m f.0 b.0, b.1)) x w6 b6 e6
    (λ f r7 w7 ff o7 b7 e7. onward (before_field f) (ReadsHead bytes x) ((((((([] ++ spelled_name n) ++ spelled_config c) ++ spelled_text t) ++ spelled_text p) ++ spelled_count w) ++ spelled_count m) ++ spelled_count f) bytes r7 (λ b. Ok (made n c t p w m f b.0, b.1)) x w7 b7 e7
    (λ b r8 w8 fb o8 b8 e8. finished bytes r8 n c t p w m f b x w8 fn fc ft fp fw fm ff fb e8))))))))

-- all of the bytes
pub body_again : (h : HeadValue) → IsHeadSpelled h → head_in (spelled_head_body h) ≡ Ok h
unfolding head_in
body_again h fit =
    let all : head_scan (spelled_head_body h) ≡ Ok (h, []) = ap head_scan (sym (append-nil (spelled_head_body h))) ∙ head_again h [] fit in
    rw all refl

pub body_takes : (body : List ℕ) (h : HeadValue) → AllByRecursion IsByte body → head_in body ≡ Ok h → (body ≡ spelled_head_body h) × IsHeadSpelled h
unfolding head_in
body_takes body h fit k = first (head_scan body) refl k
  where
    ended : (x : HeadValue × List ℕ) → head_scan body ≡ Ok x → (end : Bool) → eqb (length x.1) 0 ≡ end → cond end (Ok x.0) (Err faults.Trailing) ≡ Ok h → (body ≡ spelled_head_body h) × IsHeadSpelled h
    ended x is true end k =
        let took = head_takes body x fit is in
        let nothing_left : x.1 ≡ [] = nil_from_length x.1 (eqb-true (length x.1) 0 end) in
        let all : body ≡ spelled_head_body x.0 = took.0 ∙ ap (λ (t : List ℕ). spelled_head_body x.0 ++ t) nothing_left ∙ append-nil (spelled_head_body x.0) in
        subst (λ (y : HeadValue). (body ≡ spelled_head_body y) × IsHeadSpelled y) (same_ok x.0 h k) (all, took.1)
    ended x is false end k = absurd cc

    first : (r : Result (HeadValue × List ℕ) FieldFault) → head_scan body ≡ r → (r >>= whole_of) ≡ Ok h → (body ≡ spelled_head_body h) × IsHeadSpelled h
    first (Ok x) is k = ended x is (eqb (length x.1) 0) refl k
    first (Err f) is k = absurd cc
