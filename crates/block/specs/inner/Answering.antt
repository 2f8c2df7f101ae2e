-- What the private functions answer, as an answer of reading.
use Rattle.std.specs.Prelude.{◌≡◌, Result, Ok, Err, None}
use Rattle.refusals.specs.Refusals.{number_of}
use Rattle.plan.specs.declared.Component.{Component}
use Rattle.plan.specs.declared.Plan.{Plan}
use Rattle.block.specs.declared.Reading.{Reading}
use Rattle.block.specs.declared.Fault.{Fault}
use Rattle.block.specs.Reading.{refusal}

abbrev pub denied : Fault → Reading
denied f = refusal (number_of f.refusal) f.place f.field

abbrev pub said : Result Plan Fault → Reading
said (Ok p) = record { number = 0; place = 0; field = None; plan = p }
said (Err f) = denied f

-- a section that is asked for: what follows takes its component, or its failure is the answer
abbrev pub Answers : Result Component Fault → ((Component → Reading) → Reading) → Type 0
Answers (Ok c) asked = (next : Component → Reading) → next c ≡ asked next
Answers (Err f) asked = (next : Component → Reading) → denied f ≡ asked next
