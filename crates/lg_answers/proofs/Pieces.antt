-- The pieces of a member, joined, are the member.
use Rattle.std.proofs.Common.{◌≡◌, ◌⊎◌, inl, inr, ℕ, List, ◌++◌, ap, append_assoc, codes, refl, sym}
use Rattle.lg_rules.specs.declared.claim.Claim.{Claim}
use Rattle.lg_rules.specs.declared.claim.Status.{Status}
use Rattle.lg_rules.specs.declared.claim.Status.TheVariants.{Alive, Suspect, Failed, Left}
use Rattle.lg_answers.specs.Meaning.Members.{accuser_value, address_fields, behind_comma, member_fields, member_json}
use Rattle.lg_answers.specs.Support.Pieces.{accuser_end, behind_front}

accuser_joined : (status : Status) → accuser_end status ≡ codes ",\"accuser\":" ++ (accuser_value status ++ codes "}")
accuser_joined Alive = refl
accuser_joined (Suspect accuser) =
    ap (λ (text : List ℕ). codes ",\"accuser\":\"" ++ text) (sym (append_assoc accuser (codes "\"") (codes "}")))
accuser_joined Failed = refl
accuser_joined Left = refl

pub no_accuser : (status : Status) → (status ≡ Alive) ⊎ ((status ≡ Failed) ⊎ (status ≡ Left)) → codes ",\"accuser\":null}" ≡ accuser_end status
no_accuser status (inl is) = rw is refl
no_accuser status (inr (inl is)) = rw is refl
no_accuser status (inr (inr is)) = rw is refl

pub an_accuser : (status : Status) (name accuser : List ℕ) → status ≡ Suspect accuser → name ≡ accuser
    → (codes ",\"accuser\":\"" ++ name) ++ codes "\"}" ≡ accuser_end status
an_accuser status name accuser is named = rw (is, named) refl

pub fields_joined : (c : Claim) → codes "\"name\":\"" ++ behind_front c ≡ member_fields c ++ codes "}"
unfolding address_fields behind_front member_fields
fields_joined c = rw (accuser_joined c.status) (simp append_assoc)

pub member_joined : (c : Claim) → codes "{\"name\":\"" ++ behind_front c ≡ member_json c
unfolding member_json
member_joined c = ap (λ (text : List ℕ). codes "{" ++ text) (fields_joined c)

pub other_joined : (c : Claim) → codes ",{\"name\":\"" ++ behind_front c ≡ behind_comma member_json c
other_joined c = ap (λ (text : List ℕ). codes "," ++ text) (member_joined c)
