use Rattle.journal.proofs.Blockwise.{unread}
use Rattle.journal.proofs.journaled.read_through.Goals as goal

pub returns-in_err-window-clause-through : goal.returns-in_err-window-clause-through
returns-in_err-window-clause-through g c =
    unread g.R.Journaled.redo c.args.owner _ _ c.from_residual.result c.from_residual.ensures
