-- The line of a record, by its parts; and the lines of records and of changes, with one more.
use Rattle.std.proofs.Common.{◌≡◌, ℕ, ◌+◌, ◌<◌, List, [], ◌∷◌, ◌++◌, length, take, get_or, decimal, sym, ap, ◌∙◌, append_assoc, append-nil}
use Rattle.std.proofs.lemmas.List.{take_more}
use Rattle.std.proofs.lemmas.List.Concat.{flat_map-append}
use Rattle.lg_rules.specs.declared.claim.Claim.{Claim}
use Rattle.lg_changes.specs.declared.change.Change.{Change}
use Rattle.lg_lines.specs.Meaning.Records.{record_line, table_text}
use Rattle.lg_follow.specs.Meaning.Lines.{told_line, told_lines, changed_line, changed_lines}

joined : (text digits line : List ℕ) → ((text ++ digits) ++ 32 ∷ []) ++ (line ++ []) ≡ text ++ ((digits ++ 32 ∷ []) ++ line)
joined text digits line = simp (append_assoc, append-nil)

-- the parts of a line, put behind a text one after another
pub line_written : (moment : ℕ) (c : Claim) (text digits t1 t2 t3 : List ℕ) → digits ≡ decimal moment → t1 ≡ text ++ digits → t2 ≡ t1 ++ 32 ∷ [] → t3 ≡ t2 ++ table_text (c ∷ [])
    → t3 ≡ text ++ told_line moment c
unfolding table_text
line_written moment c text digits t1 t2 t3 is e1 e2 e3 = rw (e3, e2, e1, is) (joined text (decimal moment) (record_line c))

-- two texts, put behind a text one after another
pub put_both : (text one other t1 t2 : List ℕ) → t1 ≡ text ++ one → t2 ≡ t1 ++ other → t2 ≡ text ++ (one ++ other)
put_both text one other t1 t2 e1 e2 = rw (e2, e1) (append_assoc text one other)

-- no lines behind a text
pub no_lines : (moment : ℕ) (text : List ℕ) → text ≡ text ++ told_lines moment []
unfolding told_lines
no_lines moment text = sym (append-nil text)

pub none_changed : (text : List ℕ) → text ≡ text ++ changed_lines []
unfolding changed_lines
none_changed text = sym (append-nil text)

-- the lines so far behind a text, and one more
pub lines_more : (moment : ℕ) (records : List Claim) (i : ℕ) (c : Claim) (text now next : List ℕ) → i < length records → c ≡ get_or records i c
    → now ≡ text ++ told_lines moment (take i records) → next ≡ now ++ told_line moment c → next ≡ text ++ told_lines moment (take (i + 1) records)
unfolding told_lines
lines_more moment records i c text now next within is e1 e2 =
    let before : List Claim = take i records in
    let more : told_lines moment (take (i + 1) records) ≡ told_lines moment before ++ told_line moment c =
    ap (λ (rs : List Claim). told_lines moment rs) (take_more records i c within ∙ ap (λ (x : Claim). before ++ x ∷ []) (sym is))
    ∙ flat_map-append (λ (r : Claim). told_line moment r) before (c ∷ [])
    ∙ ap (λ (l : List ℕ). told_lines moment before ++ l) (append-nil (told_line moment c)) in
    put_both text (told_lines moment before) (told_line moment c) now next e1 e2 ∙ ap (λ (l : List ℕ). text ++ l) (sym more)

pub changed_more : (changes : List Change) (i : ℕ) (c : Change) (text now next : List ℕ) → i < length changes → c ≡ get_or changes i c
    → now ≡ text ++ changed_lines (take i changes) → next ≡ now ++ changed_line c → next ≡ text ++ changed_lines (take (i + 1) changes)
unfolding changed_lines
changed_more changes i c text now next within is e1 e2 =
    let before : List Change = take i changes in
    let more : changed_lines (take (i + 1) changes) ≡ changed_lines before ++ changed_line c =
    ap (λ (cs : List Change). changed_lines cs) (take_more changes i c within ∙ ap (λ (x : Change). before ++ x ∷ []) (sym is))
    ∙ flat_map-append (λ (x : Change). changed_line x) before (c ∷ [])
    ∙ ap (λ (l : List ℕ). changed_lines before ++ l) (append-nil (changed_line c)) in
    put_both text (changed_lines before) (changed_line c) now next e1 e2 ∙ ap (λ (l : List ℕ). text ++ l) (sym more)
