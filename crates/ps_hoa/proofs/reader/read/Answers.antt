use Rattle.std.proofs.Common.{◌≡◌, ℕ, List, Result, Ok, IfOk, IfErr, refl, rules}
use Rattle.ps_text.specs.Answers.{Stream}
use Rattle.ps_text.specs.Readers.{Reads}
use Rattle.ps_text.proofs.ParsedAnswers.Exits.{reads_mapped, reads_then}
use Rattle.ps_hoa.specs.Grammar.Body.{BodyData, body}
use Rattle.ps_hoa.specs.Files.{FileData}
use Rattle.ps_hoa.specs.Grammar.Header.{HeaderData, header}
use Rattle.ps_hoa.specs.Scan.{next_of, stream_of}
use Rattle.ps_hoa.specs.Sound.{IsSoundFile}
use Rattle.ps_hoa.specs.Texts.{file_of, file, IsFileAnswer}
use Rattle.ps_hoa.specs.Causes.{HoaFault}
use Rattle.ps_text.specs.declared.faults.Fault.TheVariants.{OutOfMemory}
use Rattle.ps_hoa.specs.declared.file.HoaFile.{HoaFile}
use Rattle.ps_hoa.specs.Tokens.{Sign}
use Rattle.ps_hoa.proofs.Reading.Answering.{refused_answers, header_fails, body_fails, ends_answers, trails_answers}
use Rattle.ps_hoa.proofs.Grammar.FileLaws.{joint_file}
use Rattle.ps_hoa.proofs.Soundness.KeptByParts.{keeps_read}
use Rattle.ps_hoa.proofs.Soundness.SoundFiles.{keeps_file}
use Rattle.ps_hoa.proofs.reader.read.Goals as goal

abbrev seen : FileData → FileData
seen x = x

-- the file of a parsed header and a parsed body is sound
sound : {old mid new : Stream Sign} {h : HeaderData} {b : BodyData} → Reads header old h mid →
    Reads (body h) mid b new → IsSoundFile (file_of h b)
sound {h = h} {b = b} m n =
    keeps_read file keeps_file _ _ (file_of h b) (reads_then joint_file m (reads_mapped (file_of h) n)).1

pub returns-in_err-tokens-clause-answer : goal.returns-in_err-tokens-clause-answer
returns-in_err-tokens-clause-answer c = search (rules, refused_answers)

pub returns-in_err-header-clause-answer : goal.returns-in_err-header-clause-answer
returns-in_err-header-clause-answer c = header_fails seen c.args.text.now (stream_of c.in_ok-tokens.tokens)
    c.in_ok-tokens.ensures.tokens _ _ c.in_err-header.ensures c.from_residual-in_err-header.ensures.1

pub returns-in_err-rows-clause-answer : goal.returns-in_err-rows-clause-answer
returns-in_err-rows-clause-answer c =
    body_fails seen c.args.text.now (stream_of c.in_ok-tokens.tokens) c.in_ok-tokens.ensures.tokens _ _
    c.in_ok-header.ensures _ _ c.in_err-rows.ensures c.from_residual-in_err-rows.ensures.1

pub returns-in_err-finish-clause-answer : goal.returns-in_err-finish-clause-answer
returns-in_err-finish-clause-answer c =
    trails_answers seen c.args.text.now (stream_of c.in_ok-tokens.tokens) c.in_ok-tokens.ensures.tokens _ _
    c.in_ok-header.ensures _ _ c.in_ok-rows.ensures (next_of (stream_of c.body.new.tokens)) _ _ refl
    c.in_err-finish.ensures.0 c.in_err-finish.ensures.1 c.from_residual-in_err-finish.ensures.1

pub file-requires : goal.file-requires
file-requires c = sound c.in_ok-header.ensures c.in_ok-rows.ensures

-- the function that assembles a file returns either a file with the right abstract value, or `OutOfMemory`
made : (text : List ℕ) (v : FileData) (r : Result HoaFile HoaFault) →
    ((x : HoaFile) → seen x ≡ v → IsFileAnswer seen text (Ok x)) →
    IfOk r (λ x. seen x ≡ v) → IfErr r (λ e. e ≡ OutOfMemory) → IsFileAnswer seen text r
made text v r h k m = search rules

pub returns-clause-answer : goal.returns-clause-answer
returns-clause-answer c = made c.args.text.now _ c.file.result (λ x v. ends_answers seen c.args.text.now
    (stream_of c.in_ok-tokens.tokens) c.in_ok-tokens.ensures.tokens _ _ c.in_ok-header.ensures _ _ c.in_ok-rows.ensures
    x v c.in_ok-finish.ensures) c.file.ensures.value c.file.ensures.memory

made_sound : {v : FileData} (r : Result HoaFile HoaFault) → IsSoundFile v → IfOk r (λ x. seen x ≡ v) →
    IfOk r IsSoundFile
made_sound r h k = search rules

pub returns-clause-sound : goal.returns-clause-sound
returns-clause-sound c = search (rules, made_sound, sound)
