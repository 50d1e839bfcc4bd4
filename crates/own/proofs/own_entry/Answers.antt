-- `own::own_entry` meets its contract: account and ceiling fill the entry.
use Rattle.own.proofs.Own.{entry_filled}
use Rattle.own.proofs.own_entry.Goals as goal

pub returns : goal.returns
returns c = rw (c.put.ensures, c.paste_at.ensures, c.own_account.ensures) (entry_filled _ c.requires)
