-- A read and a put, as a log keeps them, and how the logic stores a log.
use Rattle.std.specs.Prelude.{◌≡◌, ℕ, List, Bool, cond, ◌==◌, Result, refl}
use Rattle.std.specs.Coded.{Coded, code_by, coded×, coded_ℕ, coded_bool, coded_list, coded_result}
use Rattle.lynx_outside.specs.declared.files.FileAnswer.{FileAnswer}
use Rattle.lynx_outside.specs.declared.files.FileAnswer.TheVariants.{Absent, TooBig, Failed, NoMemory}

-- a read: the name, the most bytes that were asked for, and the answer
pub record Read : Type 0 where
  pub name : List ℕ
  pub most : ℕ
  pub answer : Result (List ℕ) FileAnswer

-- a put: its bytes, and whether all of them were taken
pub record Put : Type 0 where
  pub bytes : List ℕ
  pub taken : Bool

abbrev number_of_answer : FileAnswer → ℕ
number_of_answer Absent = 0
number_of_answer TooBig = 1
number_of_answer Failed = 2
number_of_answer NoMemory = 3

abbrev answer_at : ℕ → FileAnswer
answer_at n = cond (n == 0) Absent (cond (n == 1) TooBig (cond (n == 2) Failed NoMemory))

pub answer_at-number_of_answer : (a : FileAnswer) → answer_at (number_of_answer a) ≡ a
answer_at-number_of_answer Absent = refl
answer_at-number_of_answer TooBig = refl
answer_at-number_of_answer Failed = refl
answer_at-number_of_answer NoMemory = refl

abbrev answer_code : Coded (Result (List ℕ) FileAnswer)
answer_code = coded_result (coded_list coded_ℕ) (code_by ℕ coded_ℕ number_of_answer answer_at answer_at-number_of_answer)

abbrev ReadParts : Type 0
ReadParts = List ℕ × (ℕ × Result (List ℕ) FileAnswer)

abbrev pub reads_code : Coded (List Read)
reads_code =
    coded_list (code_by ReadParts (coded× (coded_list coded_ℕ) (coded× coded_ℕ answer_code)) (λ r. (r.name, (r.most, r.answer)))
    (λ p. record { name = p.0; most = p.1.0; answer = p.1.1 }) (λ r. refl))

abbrev pub puts_code : Coded (List Put)
puts_code =
    coded_list (code_by (List ℕ × Bool) (coded× (coded_list coded_ℕ) coded_bool) (λ p. (p.bytes, p.taken))
    (λ p. record { bytes = p.0; taken = p.1 }) (λ p. refl))
