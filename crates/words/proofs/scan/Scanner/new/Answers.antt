use Rattle.std.proofs.Common.{rules}
use Rattle.words.proofs.scan.Scanner.new.Goals as goal

pub returns : goal.returns
returns c = search rules
