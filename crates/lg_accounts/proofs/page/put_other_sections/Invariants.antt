use Rattle.std.proofs.Common.{◌≡◌, ◌++◌, map, string_bytes, take}
use Rattle.std.specs.List.{flat_map}
use Rattle.lg_accounts.specs.Meaning.Pages.{account_section}
use Rattle.lg_accounts.specs.Meaning.Values.{account_value}
use Rattle.lg_accounts.proofs.page.put_other_sections.Given as goal

-- the accounts so far
abbrev pub invariant-loop-account : goal.invariant-loop-account
invariant-loop-account l =
    string_bytes l.text ≡ string_bytes l.initial.text ++ flat_map (account_section l.name) (map account_value (take l.account-index l.others))
