-- The keys and elements of a table, by the entries and the items that hold them.
use Rattle.std.proofs.Common.{◌≡◌, ℕ, ◌&&◌, List, [], ◌∷◌, Option, Some, None, option_map, is_some, string_bytes, refl, ap, ◌∙◌}
use Rattle.std.specs.BTreeMap.{is_at}
use Rattle.std.specs.Cmp.Lexicographic.{slice_cmp}
use Rattle.std.specs.List.{list_all}
use Rattle.std.specs.Map.{lookup}
use Rattle.std.specs.Ordering.{nat_cmp}
use Rattle.toml.specs.Data.{get_member}
use Rattle.toml.specs.View.{view, items_view, members_view}
use Rattle.toml.specs.declared.value.Value.{Value}
use Rattle.toml.proofs.Views.{Entry, view-lookup}
use Rattle.lg_config.specs.Meaning.Keys.{are_known, are_texts, is_of_kind, is_text, kind_of_key}

pub texts-all : (vs : List Value) → list_all (λ v. is_text (view v)) vs ≡ are_texts (items_view vs)
texts-all [] = refl
texts-all (v ∷ vs) = ap (λ b. is_text (view v) && b) (texts-all vs)

pub known-all : (es : List Entry) → list_all (λ e. is_of_kind (kind_of_key (string_bytes e.0)) (view e.1)) es ≡ are_known (members_view es)
known-all [] = refl
known-all (e ∷ es) = ap (λ b. is_of_kind (kind_of_key (string_bytes e.0)) (view e.1) && b) (known-all es)

some-mapped : {A B : Type 0} (f : A → B) (o : Option A) → is_some o ≡ is_some (option_map f o)
some-mapped f None = refl
some-mapped f (Some x) = refl

-- a key that the entries hold is one of the members
pub held : (key : List ℕ) (es : List Entry) → is_some (lookup (is_at (λ k. slice_cmp nat_cmp key (string_bytes k))) es) ≡ is_some (get_member key (members_view es))
held key es = some-mapped view (lookup (is_at (λ k. slice_cmp nat_cmp key (string_bytes k))) es) ∙ ap is_some (view-lookup key es)
