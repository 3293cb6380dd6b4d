use Rattle.lg_accounts.specs.Meaning.Pages.{account_section}
use Rattle.lg_accounts.specs.Meaning.Values.{account_value}
use Rattle.lg_accounts.proofs.TextLaws.{written_more}
use Rattle.lg_accounts.proofs.page.put_other_sections.Goals as goal

pub loop-account-preserved : goal.loop-account-preserved
loop-account-preserved c =
    written_more (account_section c.args.name.now) account_value c.args.others.now c.loop-account.account-index c.account-item.result _ _ _ c.loop-account-test.true c.account-item.is
    c.loop-account.invariant c.in_ok-put_section.ensures
