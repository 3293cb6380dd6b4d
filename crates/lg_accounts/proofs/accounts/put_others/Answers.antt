use Rattle.lg_accounts.specs.Meaning.Accounts.{account_text}
use Rattle.lg_accounts.specs.Meaning.Values.{account_value}
use Rattle.lg_accounts.proofs.TextLaws.{written_more}
use Rattle.lg_accounts.proofs.accounts.put_others.Goals as goal

pub loop-account-preserved : goal.loop-account-preserved
loop-account-preserved c =
    written_more (account_text c.args.name.now c.args.shows_entries) account_value c.args.others.now c.loop-account.account-index c.account-item.result _ _ _ c.loop-account-test.true c.account-item.is
    c.loop-account.invariant c.in_ok-put_account.ensures
