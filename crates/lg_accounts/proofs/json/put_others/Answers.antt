use Rattle.lg_accounts.specs.Meaning.Json.{account_json, later_value}
use Rattle.lg_accounts.specs.Meaning.Values.{account_value}
use Rattle.lg_accounts.proofs.TextLaws.{behind_comma_written, written_more}
use Rattle.lg_accounts.proofs.json.put_others.Goals as goal

pub loop-account-preserved : goal.loop-account-preserved
loop-account-preserved c =
    written_more (later_value account_json) account_value c.args.others.now c.loop-account.account-index c.account-item.result _ _ _ c.loop-account-test.true c.account-item.is
    c.loop-account.invariant
    (behind_comma_written _ _ _ _ c.in_ok-push_str.ensures.bytes c.in_ok-put_account.ensures)
