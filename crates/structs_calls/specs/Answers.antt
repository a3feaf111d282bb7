-- The numbers of the struct that a call of the node returns, from its answer in document 01's words. Assumes nothing.
use Rattle.rules.specs.Answers as rules
use Rattle.structs.specs.declared.Answer.{Answer}
use Rattle.structs.specs.Numbers.{struct_of}

-- what a call of the node answers: the paper's class, number and values
abbrev pub of_answer : rules.Answer → Answer
of_answer a = let n = rules.numbers_of a in struct_of n.class n.number n.count n.value
