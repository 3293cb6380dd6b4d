-- The reasons of a group to which the member can't belong, in words.
use Rattle.std.specs.Prelude.{ℕ, List, [], ◌++◌, codes, is_none, unwrap_or, if◌then◌else◌}
use Rattle.toml.specs.Data.{Members}
use Rattle.lg_timing.specs.Meaning.Keys.{row_of}
use Rattle.lg_timing.specs.declared.keys.Key.TheVariants.{Wire}
use Rattle.lg_config.specs.Meaning.Quoting.{quoted}
use Rattle.lg_config.specs.Meaning.Ranges.{given_text}
use Rattle.lg_config.specs.Meaning.Settings.{integer_at, text_at}
use Rattle.lg_config.specs.Meaning.Texts.{member_name_of}

-- the text of the group
abbrev pub group_text : Members → List ℕ
group_text members = unwrap_or (text_at (codes "group") members) []

-- the reason of a group that is no name
abbrev pub group_name_reason : Members → List ℕ
group_name_reason members =
    codes "group is " ++ (quoted (group_text members)
    ++ codes ", and has to be 1 to 32 of A-Z a-z 0-9 . _ -\n")

-- the reason of a member of a group that sends packets of version 1 or 2
abbrev pub group_wire_reason : Members → List ℕ
group_wire_reason members =
    codes "wire is " ++ (given_text (integer_at (codes "wire") members) (row_of Wire).default
    ++ codes ", and has to be 3 for a member of a group\n")

-- the reason of the fault Group: the group is no name, or the version of packets is none that can name it
unfoldable pub group_reason : Members → List ℕ
group_reason members =
    if is_none (member_name_of (group_text members)) then group_name_reason members else group_wire_reason members
