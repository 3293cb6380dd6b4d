-- Packets and records: what is read is spelled so, and what is spelled so is read again.
use Rattle.std.proofs.Common.{◌≡◌, ℕ, Bool, true, false, ◌&&◌, List, [], ◌∷◌, ◌++◌, length, Option, Some, None, Result, Ok, Err, refl, sym, ap, subst, ◌∙◌, arith}
use Rattle.std.specs.Prelude.{nat_eq}
use Rattle.std.specs.Cmp.Lexicographic.{pointwise}
use Rattle.std.specs.List.{AllByRecursion}
use Rattle.std.proofs.lemmas.List.{append-nil}
use Rattle.std.proofs.lemmas.Slice.Eq.{bytes_eq-Decides}
use Rattle.lg_rules.specs.declared.claim.Claim.{Claim}
use Rattle.lg_rules.specs.declared.version.Version.{Version}
use Rattle.lg_rules.specs.declared.version.Version.TheVariants.{One, Two, Three}
use Rattle.lg_packet.specs.declared.fault.Fault.{Fault}
use Rattle.lg_packet.specs.declared.packet.Body.{Body}
use Rattle.lg_packet.specs.declared.packet.Body.TheVariants as bodies
use Rattle.lg_packet.specs.declared.packet.Packet.{Packet}
use Rattle.lg_packet.specs.Meaning.Bytes.{IsByte}
use Rattle.lg_packet.specs.Meaning.Spelling.{AreClaims, IsPacket, Spells, spellable, spelling}
use Rattle.lg_packet.specs.Meaning.Reading.{packet_of}
use Rattle.lg_packet.proofs.DecodingLaws.{are_bytes}
use Rattle.lg_packet.proofs.Packets.{whole_again, whole_read}
use Rattle.lg_packet.proofs.Spellable.{spellable-spelling}
use Rattle.lg_fields.specs.declared.fault.FieldFault.TheVariants as faults
use Rattle.lg_fields.specs.Meaning.Spelled.{AreRecords, IsCountedText, IsTellable, records_page, spelled_count, spelled_records, spelled_text, spelled_told}
use Rattle.lg_fields.specs.Meaning.Scanned.{◌>>=◌, has_no_group, is_of_first, is_page_body, is_records_page, is_version_three, only_packet, records_in, records_of_page, records_scan, text_scan, told_in, told_scan}
use Rattle.lg_fields.proofs.Results.{step_ok, passed, same_ok, front_bytes, rest_bytes}
use Rattle.lg_fields.proofs.Texts.{text_takes, text_again}
use Rattle.lg_fields.proofs.PacketRooms.{packet_room}

-- ---- packets

packet_ok : (r : Result Packet Fault) (p : Packet) → only_packet r ≡ Ok p → r ≡ Ok p
packet_ok (Ok q) p e = cc
packet_ok (Err f) p e = absurd cc

told_in_takes : (bytes : List ℕ) (p : Packet) → AllByRecursion IsByte bytes → told_in bytes ≡ Ok p → Spells bytes p
told_in_takes bytes p fit e = whole_read bytes p (are_bytes bytes fit) (packet_ok (packet_of bytes) p e)

told_in_again : (p : Packet) → IsPacket p → told_in (spelling p) ≡ Ok p
told_in_again p fit = ap only_packet (whole_again (spelling p) p (fit, refl))

text_bytes : (bytes text rest : List ℕ) → AllByRecursion IsByte bytes → bytes ≡ spelled_text text ++ rest → AllByRecursion IsByte text
text_bytes bytes text rest fit e =
    rest_bytes (spelled_count (length text)) text (front_bytes (spelled_text text) rest (subst (AllByRecursion IsByte) e fit))

pub counted_spelling : (p : Packet) → IsPacket p → IsCountedText (spelling p)
counted_spelling p fit = omega (arith, packet_room p fit)

pub told_takes : (bytes : List ℕ) (x : Packet × List ℕ) → AllByRecursion IsByte bytes → told_scan bytes ≡ Ok x → (bytes ≡ spelled_told x.0 ++ x.1) × IsPacket x.0
unfolding told_scan
told_takes bytes x fit e =
    let a = step_ok (text_scan bytes) (λ text. told_in text.0 >>= λ packet. Ok (packet, text.1)) x e in
    let b = step_ok (told_in a.0.0) (λ packet. Ok (packet, a.0.1)) x a.2 in
    let text = text_takes bytes a.0 fit a.1 in
    let packet = told_in_takes a.0.0 b.0 (text_bytes bytes a.0.0 a.0.1 fit text.0) b.1 in
    let whole : bytes ≡ spelled_told b.0 ++ a.0.1 = text.0 ∙ ap (λ (t : List ℕ). spelled_text t ++ a.0.1) packet.1 in
    subst (λ (y : Packet × List ℕ). (bytes ≡ spelled_told y.0 ++ y.1) × IsPacket y.0) (same_ok (b.0, a.0.1) x b.2) (whole, packet.0)

pub own_told_again : (p : Packet) (rest : List ℕ) → IsPacket p → told_scan (spelled_told p ++ rest) ≡ Ok (p, rest)
unfolding told_scan
own_told_again p rest fit = rw (text_again (spelling p) rest (counted_spelling p fit), told_in_again p fit) refl

pub told_again : (p : Packet) (rest : List ℕ) → IsTellable p → told_scan (spelled_told p ++ rest) ≡ Ok (spellable p, rest)
told_again p rest fit =
    ap (λ (t : List ℕ). told_scan (spelled_text t ++ rest)) (sym (spellable-spelling p)) ∙ own_told_again (spellable p) rest fit

-- ---- records

-- what a packet that is the Page of its claims is
record IsTheirPage (p : Packet) (rows : List Claim) : Type 0 where
  pub page : p ≡ records_page rows
  pub spelled : spelled_records rows ≡ spelled_told p

both : (a b : Bool) → (a && b) ≡ true → (a ≡ true) × (b ≡ true)
both true b e = (refl, e)
both false b e = absurd cc

of_first : (sender : List ℕ) (rows : List Claim) → is_of_first sender rows ≡ true → IsTheirPage (record (records_page rows) { sender = sender }) rows
of_first sender [] e = absurd cc
of_first sender (c ∷ cs) e =
    let same : sender ≡ c.name = (bytes_eq-Decides sender c.name).0 e in
    let page : record (records_page (c ∷ cs)) { sender = sender } ≡ records_page (c ∷ cs) = ap (λ (name : List ℕ). record (records_page (c ∷ cs)) { sender = name }) same in
    record { page = page; spelled = ap spelled_told (sym page) }

of_body : (sender : List ℕ) (body : Body) (rows : List Claim) → is_page_body body ≡ true → is_of_first sender rows ≡ true → IsTheirPage (record (records_page rows) { sender = sender; body = body }) rows
of_body sender (bodies.Ping number target) rows e f = absurd cc
of_body sender (bodies.PingReq number target addr) rows e f = absurd cc
of_body sender (bodies.Ack number receiver) rows e f = absurd cc
of_body sender (bodies.Nack number receiver) rows e f = absurd cc
of_body sender (bodies.Pull after) rows e f = absurd cc
of_body sender bodies.Page rows e f = of_first sender rows f
of_body sender bodies.Gossip rows e f = absurd cc

of_group : (group : Option (List ℕ)) (sender : List ℕ) (body : Body) (rows : List Claim) → has_no_group group ≡ true → is_page_body body ≡ true → is_of_first sender rows ≡ true → IsTheirPage (record (records_page rows) { group = group; sender = sender; body = body }) rows
of_group None sender body rows d e f = of_body sender body rows e f
of_group (Some group) sender body rows d e f = absurd cc

of_version : (v : Version) (group : Option (List ℕ)) (sender : List ℕ) (body : Body) (rows : List Claim) → is_version_three v ≡ true → has_no_group group ≡ true → is_page_body body ≡ true → is_of_first sender rows ≡ true
    → IsTheirPage (record { version = v; group = group; sender = sender; body = body; claims = record { items = rows } }) rows
of_version One group sender body rows c d e f = absurd cc
of_version Two group sender body rows c d e f = absurd cc
of_version Three group sender body rows c d e f = of_group group sender body rows d e f

their_page : (p : Packet) → is_records_page p ≡ true → IsTheirPage p p.claims.items
their_page p e =
    let a = both (is_version_three p.version) (has_no_group p.group && (is_page_body p.body && is_of_first p.sender p.claims.items)) e in
    let b = both (has_no_group p.group) (is_page_body p.body && is_of_first p.sender p.claims.items) a.1 in
    let c = both (is_page_body p.body) (is_of_first p.sender p.claims.items) b.1 in
    of_version p.version p.group p.sender p.body p.claims.items a.0 b.0 c.0 c.1

abbrev ReadsRecords : List ℕ → List Claim → Type 0
ReadsRecords text rows = ((rest : List ℕ) → spelled_records rows ++ rest ≡ spelled_text text ++ rest) × AreRecords rows

page_takes : (text : List ℕ) (rows : List Claim) → AllByRecursion IsByte text → (told_in text >>= records_of_page) ≡ Ok rows → ReadsRecords text rows
page_takes text rows fit e =
    let a = step_ok (told_in text) records_of_page rows e in
    let p : Packet = a.0 in
    let b = passed (is_records_page p) faults.Packet (Ok p.claims.items) rows a.2 in
    let packet = told_in_takes text p fit a.1 in
    let page = their_page p b.0 in
    let claims : AreClaims Three p.claims.items = (subst IsPacket page.page packet.0).claims in
    let told : spelled_told p ≡ spelled_text text = ap spelled_text (sym packet.1) in
    subst (ReadsRecords text) (same_ok p.claims.items rows b.1) (λ rest. ap (λ (t : List ℕ). t ++ rest) (page.spelled ∙ told), claims)

none_takes : (rows : List Claim) → records_in [] ≡ Ok rows → ReadsRecords [] rows
none_takes rows e =
    subst (ReadsRecords []) (same_ok [] rows e)
    (λ rest. ap (λ (t : List ℕ). t ++ rest) (sym (append-nil (spelled_count 0))), record { few = omega arith; each = tt })

records_in_takes : (text : List ℕ) (rows : List Claim) → AllByRecursion IsByte text → records_in text ≡ Ok rows → ReadsRecords text rows
records_in_takes [] rows fit e = none_takes rows e
records_in_takes (b ∷ text) rows fit e = page_takes (b ∷ text) rows fit e

pub records_takes : (bytes : List ℕ) (x : List Claim × List ℕ) → AllByRecursion IsByte bytes → records_scan bytes ≡ Ok x → (bytes ≡ spelled_records x.0 ++ x.1) × AreRecords x.0
unfolding records_scan
records_takes bytes x fit e =
    let a = step_ok (text_scan bytes) (λ text. records_in text.0 >>= λ rows. Ok (rows, text.1)) x e in
    let b = step_ok (records_in a.0.0) (λ rows. Ok (rows, a.0.1)) x a.2 in
    let text = text_takes bytes a.0 fit a.1 in
    let rows = records_in_takes a.0.0 b.0 (text_bytes bytes a.0.0 a.0.1 fit text.0) b.1 in
    subst (λ (y : List Claim × List ℕ). (bytes ≡ spelled_records y.0 ++ y.1) × AreRecords y.0) (same_ok (b.0, a.0.1) x b.2) (text.0 ∙ sym (rows.0 a.0.1), rows.1)

pub page_fits : (c : Claim) (cs : List Claim) → AreRecords (c ∷ cs) → IsPacket (records_page (c ∷ cs))
page_fits c cs fit = record { group = tt; sender = fit.each.0.name; body = tt; claims = fit }

page_read : (c : Claim) (cs : List Claim) → records_of_page (records_page (c ∷ cs)) ≡ Ok (c ∷ cs)
page_read c cs =
    let same : pointwise nat_eq c.name c.name ≡ true = (bytes_eq-Decides c.name c.name).1 refl in
    rw same refl

-- a spelling has some bytes
page_opened : (c : Claim) (cs : List Claim) → records_in (spelling (records_page (c ∷ cs))) ≡ (told_in (spelling (records_page (c ∷ cs))) >>= records_of_page)
unfolding spelling
page_opened c cs = refl

page_again : (c : Claim) (cs : List Claim) → AreRecords (c ∷ cs) → records_in (spelling (records_page (c ∷ cs))) ≡ Ok (c ∷ cs)
page_again c cs fit = page_opened c cs ∙ rw (told_in_again (records_page (c ∷ cs)) (page_fits c cs fit)) (page_read c cs)

pub records_again : (rows : List Claim) (rest : List ℕ) → AreRecords rows → records_scan (spelled_records rows ++ rest) ≡ Ok (rows, rest)
unfolding records_scan
records_again [] rest fit =
    let none : text_scan (spelled_text [] ++ rest) ≡ Ok ([], rest) = text_again [] rest (omega arith) in
    let same : spelled_count 0 ++ rest ≡ spelled_text [] ++ rest = ap (λ (t : List ℕ). t ++ rest) (sym (append-nil (spelled_count 0))) in
    ap records_scan same ∙ rw none refl
records_again (c ∷ cs) rest fit =
    let page : Packet = records_page (c ∷ cs) in
    rw (text_again (spelling page) rest (counted_spelling page (page_fits c cs fit)), page_again c cs fit) refl
