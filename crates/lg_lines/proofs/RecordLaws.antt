-- The texts of an address and of a record, by their parts.
use Rattle.std.proofs.Common.{◌≡◌, ℕ, List, [], ◌∷◌, ◌++◌, length, get_or, decimal, arith, append_assoc, append-nil}
use Rattle.lg_rules.specs.declared.claim.Claim.{Claim}
use Rattle.lg_text.specs.Meaning.Addresses.{addr_text, dotted}
use Rattle.lg_lines.specs.Meaning.Records.{accuser_text, record_text, status_text}

-- four texts with dots between them and a fifth behind a colon
joined : (text a b c d port : List ℕ) → text ++ a ++ (46 ∷ b) ++ (46 ∷ c) ++ (46 ∷ d) ++ (58 ∷ port)
    ≡ text ++ ((a ++ (46 ∷ (b ++ (46 ∷ (c ++ (46 ∷ (d ++ []))))))) ++ 58 ∷ [] ++ port)
joined text a b c d port = simp (append_assoc, append-nil)

-- the parts of an address, put behind a text one after another
pub addr_written : (octets : List ℕ) (text t1 t2 t3 t4 t5 : List ℕ) (a b c d port : ℕ) → length octets ≡ 4
    → a ≡ get_or octets 0 0 → b ≡ get_or octets 1 0 → c ≡ get_or octets 2 0 → d ≡ get_or octets 3 0
    → t1 ≡ text ++ decimal a → t2 ≡ t1 ++ (46 ∷ decimal b) → t3 ≡ t2 ++ (46 ∷ decimal c) → t4 ≡ t3 ++ (46 ∷ decimal d)
    → t5 ≡ t4 ++ (58 ∷ decimal port) → t5 ≡ text ++ (dotted octets ++ 58 ∷ [] ++ decimal port)
addr_written (a ∷ b ∷ c ∷ d ∷ []) text t1 t2 t3 t4 t5 a' b' c' d' port four ea eb ec ed e1 e2 e3 e4 e5 =
    rw (e5, e4, e3, e2, e1, ea, eb, ec, ed) (joined text (decimal a) (decimal b) (decimal c) (decimal d) (decimal port))
addr_written [] text t1 t2 t3 t4 t5 a' b' c' d' port four ea eb ec ed e1 e2 e3 e4 e5 = absurd (omega arith)
addr_written (a ∷ []) text t1 t2 t3 t4 t5 a' b' c' d' port four ea eb ec ed e1 e2 e3 e4 e5 = absurd (omega arith)
addr_written (a ∷ b ∷ []) text t1 t2 t3 t4 t5 a' b' c' d' port four ea eb ec ed e1 e2 e3 e4 e5 = absurd (omega arith)
addr_written (a ∷ b ∷ c ∷ []) text t1 t2 t3 t4 t5 a' b' c' d' port four ea eb ec ed e1 e2 e3 e4 e5 = absurd (omega arith)
addr_written (a ∷ b ∷ c ∷ d ∷ e ∷ es) text t1 t2 t3 t4 t5 a' b' c' d' port four ea eb ec ed e1 e2 e3 e4 e5 = absurd (omega arith)

-- the parts of a record, put behind a text one after another
pub record_written : (c : Claim) (text t1 t2 t3 t4 t5 t6 t7 name word : List ℕ) (number : ℕ)
    → name ≡ c.name → word ≡ status_text c.status → number ≡ c.incarnation
    → t1 ≡ text ++ name → t2 ≡ t1 ++ 32 ∷ [] → t3 ≡ t2 ++ word → t4 ≡ t3 ++ (32 ∷ decimal number)
    → t5 ≡ t4 ++ 32 ∷ [] → t6 ≡ t5 ++ addr_text c.addr → t7 ≡ t6 ++ accuser_text c.status
    → t7 ≡ text ++ record_text c
record_written c text t1 t2 t3 t4 t5 t6 t7 name word number named worded numbered e1 e2 e3 e4 e5 e6 e7 =
    rw (e7, e6, e5, e4, e3, e2, e1, named, worded, numbered) (simp append_assoc)
