-- The page that a person reads, as HTML (this project's choice). What doesn't depend on the look is the same as in the
-- code: its style, and the script that follows the changes.
use Rattle.std.specs.Prelude.{ℕ, Bool, true, false, List, [], ◌++◌, codes, decimal, length}
use Rattle.std.specs.List.{flat_map}
use Rattle.lg_rules.specs.declared.addr.Addr.{Addr}
use Rattle.lg_rules.specs.declared.claim.Claim.{Claim}
use Rattle.lg_rules.specs.declared.claim.Status.{Status}
use Rattle.lg_rules.specs.declared.claim.Status.TheVariants.{Alive, Suspect, Failed, Left}
use Rattle.lg_text.specs.Meaning.Addresses.{addr_text}
use Rattle.lg_lines.specs.Meaning.Records.{status_text}
use Rattle.lg_answers.specs.declared.page.TheConstants.{PAGE_END, PAGE_FRONT, TABLE_FRONT}
use Rattle.lg_answers.specs.declared.snapshot.Snapshot.{Snapshot}
use Rattle.lg_answers.specs.Meaning.Bodies.{live_among}

-- what stands before the look's part, and behind it
unfoldable pub page_front : List ℕ
page_front = PAGE_FRONT.now

unfoldable pub page_end : List ℕ
page_end = PAGE_END.now

-- this member and its health
unfoldable pub name_heading : List ℕ → List ℕ
name_heading name = codes "<h1>" ++ (name ++ codes "</h1>\n<p id='health'>")

unfoldable pub score_words : ℕ → ℕ → List ℕ
score_words score incarnation =
    codes "score " ++ (decimal score ++ (codes ", incarnation " ++ (decimal incarnation ++ codes ", ")))

unfoldable pub page_head : Snapshot → List ℕ
page_head s = name_heading s.name ++ score_words s.score s.incarnation

abbrev pub ousted_words : Bool → List ℕ
ousted_words true = codes ", ousted"
ousted_words false = []

unfoldable pub live_words : ℕ → ℕ → List ℕ → List ℕ
live_words live known ousted =
    decimal live ++ (codes " of " ++ (decimal known ++ (codes " members live" ++ (ousted ++ codes "</p>\n"))))

unfoldable pub summary_text : List Claim → Bool → List ℕ
summary_text records ousted = live_words (live_among records) (length records) (ousted_words ousted)

-- the head of the table of members, which tells the script its version
unfoldable pub table_front : List ℕ
table_front = TABLE_FRONT.now

unfoldable pub body_tag : ℕ → List ℕ
body_tag version = codes "<tbody id='members' data-version='" ++ (decimal version ++ codes "'>\n")

unfoldable pub table_head : ℕ → List ℕ
table_head version = table_front ++ body_tag version

-- the row of a member
unfoldable pub name_cells : List ℕ → List ℕ → List ℕ
name_cells status name = codes "<tr class='" ++ (status ++ (codes "'><td>" ++ (name ++ codes "<td>")))

unfoldable pub status_cells : List ℕ → ℕ → List ℕ
status_cells status incarnation = status ++ (codes "<td>" ++ (decimal incarnation ++ codes "<td>"))

unfoldable pub row_front : Claim → List ℕ
row_front c = name_cells (status_text c.status) c.name ++ status_cells (status_text c.status) c.incarnation

abbrev pub row_address : Addr → List ℕ
row_address addr = addr_text addr ++ codes "<td>"

abbrev pub row_accuser : Status → List ℕ
row_accuser Alive = []
row_accuser (Suspect accuser) = accuser
row_accuser Failed = []
row_accuser Left = []

unfoldable pub member_row : Claim → List ℕ
member_row c = row_front c ++ row_address c.addr ++ row_accuser c.status ++ codes "</tr>\n"

unfoldable pub page_body : Snapshot → List ℕ
page_body s =
    page_front ++ page_head s ++ summary_text s.records.items s.ousted ++ table_head s.version
    ++ flat_map member_row s.records.items ++ page_end
