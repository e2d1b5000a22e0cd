-- The number of each refusal, and the layer of the text that it belongs to.
use Rattle.std.specs.Prelude.{ℕ}
use Rattle.refusals.specs.declared.Refusal.{Refusal}
use Rattle.refusals.specs.declared.Refusal.TheVariants.{ForeignByte, TooLong, Unpaired, WrongForm, WrongNumber, GrammarFull, Duplicate, SelfChain, WrongTop, LeasesOut, NinthLease, OtherGrammar, UnknownWord, SessionFull, NoPlace, NoWords, WrongLadder, TooSmall, NoDerivation}
use Rattle.refusals.specs.declared.Layer.{Layer}
use Rattle.refusals.specs.declared.Layer.TheVariants.{Text, Form, Grammar, Call}

abbrev pub number : Refusal → ℕ
number ForeignByte = 1
number TooLong = 2
number Unpaired = 3
number WrongForm = 4
number WrongNumber = 5
number GrammarFull = 6
number Duplicate = 7
number SelfChain = 8
number WrongTop = 9
number LeasesOut = 10
number NinthLease = 11
number OtherGrammar = 12
number UnknownWord = 13
number SessionFull = 14
number NoPlace = 15
number NoWords = 16
number WrongLadder = 17
number TooSmall = 18
number NoDerivation = 19

-- a fault of the bytes, of the form that they make, or of the grammar that the forms make
abbrev pub layer : Refusal → Layer
layer ForeignByte = Text
layer TooLong = Text
layer Unpaired = Form
layer WrongForm = Form
layer WrongNumber = Form
layer GrammarFull = Grammar
layer Duplicate = Grammar
layer SelfChain = Grammar
layer WrongTop = Grammar
layer LeasesOut = Call
layer NinthLease = Call
layer OtherGrammar = Call
layer UnknownWord = Call
layer SessionFull = Call
layer NoPlace = Call
layer NoWords = Call
layer WrongLadder = Call
layer TooSmall = Call
layer NoDerivation = Call
