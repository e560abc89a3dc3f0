-- With what an entry begins.
use Rattle.std.specs.Prelude.{ℕ, List, ◌++◌, codes}
use Rattle.charlotte_text.specs.Spelling.{number_text, process_text}
use Rattle.leading_lines.specs.declared.guess.Ahead.{Ahead}
use Rattle.leading_lines.specs.declared.guess.Ahead.TheVariants as ahead

-- the stamp, the kernel, and the process that makes a call or the kernel that a packet comes from
abbrev pub head_text : Ahead → List ℕ
head_text (ahead.Call a) = number_text a.stamp ++ codes " k" ++ number_text a.kernel ++ codes " " ++ process_text a.p ++ codes " "
head_text (ahead.Packet a) = number_text a.stamp ++ codes " k" ++ number_text a.kernel ++ codes " from " ++ number_text a.from ++ codes " "
