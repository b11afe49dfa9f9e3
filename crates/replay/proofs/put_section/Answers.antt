use Rattle.text.proofs.Puts.{chain}
use Rattle.replay.proofs.put_section.Goals as goal

pub returns : goal.returns
returns c = chain c.put_name-p.ensures c.put.ensures
