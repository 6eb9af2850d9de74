-- How a mistake reads. Assumes nothing.
use Rattle.std.specs.Prelude.{ℕ, List, ◌++◌, codes, decimal}
use Rattle.description.specs.declared.mistake.Mistake.{Mistake}
use Rattle.description.specs.declared.mistake.Mistake.TheVariants.{UnknownRow, MissingWord, ExtraWord, QuoteLeftOpen, BadEscape, QuotedWord, NotQuoted, NotANumber, NumberTooLarge, SectionTooLarge, ModuleTooLarge, CodeTooLarge, NotAnOffset, NotAName, NotAKind, NotAnEnding, NotAFault, NotExtras, NotAState, NotATable, TableTooLarge, ThunkTooLong, NoModule, NoLines, NoSite, SymbolsEndTwice, ExtrasTwice, PublicsEndTwice, ContributionsEndTwice, TableTwice, TextTooLong, TooManyRows}
use Rattle.description.specs.declared.mistake.ReadError.{ReadError}
use Rattle.description.specs.declared.mistake.ReadError.TheVariants.{At, NoMemory}

abbrev pub mistake_text : Mistake → List ℕ
mistake_text UnknownRow = codes "no row begins with this word"
mistake_text MissingWord = codes "a word is missing at the end"
mistake_text ExtraWord = codes "there is a word too many"
mistake_text QuoteLeftOpen = codes "a quoted text has no closing quote"
mistake_text BadEscape = codes "an escape is one of \\\", \\\\, \\n, \\t, \\r and \\xHH"
mistake_text QuotedWord = codes "a quoted text cannot stand here"
mistake_text NotQuoted = codes "a text stands in quotes"
mistake_text NotANumber = codes "a number is decimal, or hexadecimal after 0x"
mistake_text NumberTooLarge = codes "a number is at most 4294967295"
mistake_text SectionTooLarge = codes "a section number is at most 65535"
mistake_text ModuleTooLarge = codes "a module number is at most 65535"
mistake_text CodeTooLarge = codes "a fault code is at most 65535"
mistake_text NotAnOffset = codes "an offset is written SECTION:OFFSET"
mistake_text NotAName = codes "a name is quoted, or written START+LENGTH"
mistake_text NotAKind = codes "a section is executable or data"
mistake_text NotAnEnding = codes "a list has `end clean` or `end fault CODE`"
mistake_text NotAFault = codes "after its start a list has nothing or `fault CODE`"
mistake_text NotExtras = codes "extras are `readable` or `fault CODE`"
mistake_text NotAState = codes "a module is present, absent or broken"
mistake_text NotATable = codes "a table is starts, contributions, frames or addresses"
mistake_text TableTooLarge = codes "a table has at most 16777216 rows"
mistake_text ThunkTooLong = codes "the length of a thunk is at most 65535"
mistake_text NoModule = codes "no module stands above this row"
mistake_text NoLines = codes "no `lines` of its module stands above this row"
mistake_text NoSite = codes "no `inlined` of its module stands above this row"
mistake_text SymbolsEndTwice = codes "the end of the symbols is said twice of this module"
mistake_text ExtrasTwice = codes "the extras are said twice of this module"
mistake_text PublicsEndTwice = codes "the end of the publics is said twice"
mistake_text ContributionsEndTwice = codes "the end of the contributions is said twice"
mistake_text TableTwice = codes "the size of this table is said twice"
mistake_text TextTooLong = codes "the text has at most 4294967295 bytes"
mistake_text TooManyRows = codes "a list has at most 4294967295 rows"

abbrev pub error_text : ReadError → List ℕ
error_text (At n m) = codes "line " ++ decimal n ++ codes ": " ++ mistake_text m
error_text NoMemory = codes "there is not enough memory"
