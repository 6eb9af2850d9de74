use Rattle.std.proofs.Common.{rules}
use Rattle.words.proofs.quote.QuoteErrorFromAllocFailed.from.Goals as goal

pub returns : goal.returns
returns g c = search rules
