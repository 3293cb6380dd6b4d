-- What an insert makes of the members of a table.
use Rattle.std.proofs.Common.{◌≡◌, ℕ, List, [], ◌∷◌, String, Global, Ordering, Less, Equal, Greater, string_bytes, refl, ap, ◌∙◌}
use Rattle.std.specs.BTreeMap.{insert_entry}
use Rattle.std.specs.Ordering.{match_ordering}
use Rattle.std.specs.String.{string_cmp}
use Rattle.toml.proofs.Views.{Entry}
use Rattle.toml.specs.View.{members_view, view}
use Rattle.toml.specs.declared.value.Value.{Value}
use Rattle.lg_config.specs.Meaning.Options.{put_member}

match_members : (o : Ordering) (a b c : List Entry) → members_view (match_ordering o a b c) ≡ match_ordering o (members_view a) (members_view b) (members_view c)
match_members Less a b c = refl
match_members Equal a b c = refl
match_members Greater a b c = refl

-- an insert puts the value into the members
inserted : (es : List Entry) (k : String Global) (v : Value) → members_view (insert_entry string_cmp es k v) ≡ put_member (string_bytes k) (view v) (members_view es)
inserted [] k v = refl
inserted (e ∷ es) k v = match_members (string_cmp k e.0) _ _ _ ∙ rw (inserted es k v)

pub inserted_as : (es : List Entry) (k : String Global) (key : List ℕ) (v : Value) → string_bytes k ≡ key
    → members_view (insert_entry string_cmp es k v) ≡ put_member key (view v) (members_view es)
inserted_as es k key v same = inserted es k v ∙ ap (λ key. put_member key (view v) (members_view es)) same
