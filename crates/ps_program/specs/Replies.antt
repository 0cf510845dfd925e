-- The program's answers, as bytes and an exit status.
use Rattle.std.specs.Prelude.{ℕ, List, ◌++◌, codes}
use Rattle.ps_program.specs.Help.{help_text}
use Rattle.ps_program.specs.declared.answer.Answer.{Answer}

-- an answer of the program: the bytes that it writes, and its exit status
pub record Reply : Type 0 where
  pub text : List ℕ
  pub status : ℕ

abbrev pub reply_of : Answer → Reply
reply_of answer = record { text = answer.text.items; status = answer.status }

-- the answer that consists of the given text, with the exit status 0
abbrev pub text_reply : List ℕ → Reply
text_reply text = record { text = text; status = 0 }

-- the answer that consists of the given line, with the exit status 0
abbrev pub line_reply : List ℕ → Reply
line_reply line = text_reply (line ++ codes "\n")

-- the answer that consists of the line that reports a fault
abbrev pub fault_reply : List ℕ → Reply
fault_reply line = record { text = line ++ codes "\n"; status = 1 }

-- the answer to a rejected command line
abbrev pub usage : Reply
usage = record { text = codes "fault usage\n"; status = 2 }

-- the answer to a request for help
abbrev pub help : Reply
help = text_reply help_text

abbrev pub out_of_memory : Reply
out_of_memory = fault_reply (codes "fault 24 OutOfMemory")

-- the answer if a read failed, or if the input is too long
abbrev pub read_fault : Reply
read_fault = fault_reply (codes "fault 25 ReadFault")
