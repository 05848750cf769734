-- the names of the rules of a database's text
use Rattle.std.specs.Prelude.{ℕ, List, codes}
use Rattle.cal_words.specs.declared.rules.Rule.{Rule}
use Rattle.cal_words.specs.declared.rules.Rule.TheVariants.{Word, LeftOut, Element, Function, Phase, Constituent, Parameter, TypeDef, Unfinished}

abbrev pub name_of : Rule → List ℕ
name_of Word = codes "word"
name_of LeftOut = codes "left-out"
name_of Element = codes "element"
name_of Function = codes "function"
name_of Phase = codes "phase"
name_of Constituent = codes "constituent"
name_of Parameter = codes "parameter"
name_of TypeDef = codes "type"
name_of Unfinished = codes "unfinished"
