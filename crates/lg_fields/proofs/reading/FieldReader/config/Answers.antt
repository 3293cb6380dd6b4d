use Rattle.std.proofs.lemmas.Result.{err_from_is_err_and}
use Rattle.lg_fields.proofs.ConfigSteps.{addr_stops, count_stops, group_stops, name_stops, numbers_are, numbers_stop, seeds_stop}
use Rattle.lg_fields.proofs.reading.FieldReader.config.Goals as goal

pub returns-in_err-numbers : goal.returns-in_err-numbers
returns-in_err-numbers c =
    let p = err_from_is_err_and c.from_residual.result c.from_residual.ensures.1 in
    rw (p.1, p.2) (numbers_stop _ _ _ c.blank_config-config.ensures c.in_err-numbers.ensures)

pub returns-in_err-name : goal.returns-in_err-name
returns-in_err-name c =
    let p = err_from_is_err_and c.from_residual-in_err-name.result c.from_residual-in_err-name.ensures.1 in
    rw (p.1, p.2) (name_stops _ _ _ _ (numbers_are _ _ _ _ c.blank_config-config.ensures c.in_ok-numbers.ensures) c.in_err-name.ensures)

pub returns-in_err-addr : goal.returns-in_err-addr
returns-in_err-addr c =
    let p = err_from_is_err_and c.from_residual-in_err-addr.result c.from_residual-in_err-addr.ensures.1 in
    rw (p.1, p.2) (addr_stops _ _ _ _ _ _ (numbers_are _ _ _ _ c.blank_config-config.ensures c.in_ok-numbers.ensures) c.in_ok-name.ensures c.in_err-addr.ensures)

pub returns-in_err-group : goal.returns-in_err-group
returns-in_err-group c =
    let p = err_from_is_err_and c.from_residual-in_err-group.result c.from_residual-in_err-group.ensures.1 in
    rw (p.1, p.2) (group_stops _ _ _ _ _ _ _ _ (numbers_are _ _ _ _ c.blank_config-config.ensures c.in_ok-numbers.ensures) c.in_ok-name.ensures c.in_ok-addr.ensures c.in_err-group.ensures)

pub returns-in_err-count : goal.returns-in_err-count
returns-in_err-count c =
    let p = err_from_is_err_and c.from_residual-in_err-count.result c.from_residual-in_err-count.ensures.1 in
    rw (p.1, p.2) (count_stops _ _ _ _ _ _ _ _ _ _ (numbers_are _ _ _ _ c.blank_config-config.ensures c.in_ok-numbers.ensures) c.in_ok-name.ensures c.in_ok-addr.ensures c.in_ok-group.ensures c.in_err-count.ensures.value)

pub returns-in_err-seeds : goal.returns-in_err-seeds
returns-in_err-seeds c =
    let p = err_from_is_err_and c.from_residual-in_err-seeds.result c.from_residual-in_err-seeds.ensures.1 in
    rw (p.1, p.2) (seeds_stop _ _ _ _ _ _ _ _ _ _ _ _ (numbers_are _ _ _ _ c.blank_config-config.ensures c.in_ok-numbers.ensures) c.in_ok-name.ensures c.in_ok-addr.ensures c.in_ok-group.ensures c.in_ok-count.ensures.value c.in_err-seeds.ensures)
