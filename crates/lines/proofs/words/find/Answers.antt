use Rattle.lines.proofs.Firsts.{first_is}
use Rattle.lines.proofs.words.find.Goals as goal

pub returns : goal.returns
returns c = first_is _ c.args.text.now c.memchr.result c.memchr.ensures
