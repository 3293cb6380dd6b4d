-- What a node is asked for besides its configuration (this project's choice).
use Rattle.std.specs.Prelude.{ℕ, Bool, ◌||◌, Option, Some, None, is_none}
use Rattle.lg_timing.specs.declared.moment.TheConstants.{MAX_MOMENT}

-- the moment at which time ends a node, by the moment that was wished; without one it is the last that there is, which
-- comes after more than 30,000 years
abbrev pub end_wished : Option ℕ → ℕ
end_wished (Some moment) = moment
end_wished None = MAX_MOMENT

-- whether a node is announced before it starts, by the moment that was wished and whether it follows
abbrev pub is_announced : Option ℕ → Bool → Bool
is_announced until follow = follow || is_none until
