-- What is refused of a text as such: the number of each case. Assumes nothing.
use Rattle.std.specs.Prelude.{ℕ}
use Rattle.faults.specs.declared.layer.Layer.{Layer}
use Rattle.faults.specs.declared.layer.Layer.TheVariants.{Text}
use Rattle.jobtext.specs.declared.fault.TextFault.{TextFault}
use Rattle.jobtext.specs.declared.fault.TextFault.TheVariants.{WrongForm, WrongCount, UnknownFirst, OutOfPlace, TooLong}

abbrev pub text_number : TextFault → ℕ
text_number WrongForm = 1
text_number WrongCount = 2
text_number UnknownFirst = 3
text_number OutOfPlace = 4
text_number TooLong = 5

abbrev pub text_layer : TextFault → Layer
text_layer _ = Text
