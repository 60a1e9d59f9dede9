-- The output text, line by line. Numbers are decimal, addresses and sites are `0x` and hexadecimal digits, a
-- byte is two such digits; each line ends with byte 10.
use Rattle.std.specs.Prelude.{ℕ, ◌+◌, ◌/◌, ◌%◌, Bool, false, List, [], ◌∷◌, ◌++◌, length, map, Option, Some, None, if◌then◌else◌, codes}
use Rattle.std.specs.List.{flat_map, enumerate_from, position, join_with_byte}
use Rattle.std.specs.Fmt.{decimal, digits, digit_glyph}
use Rattle.om_opts.specs.declared.options.Opts.{Opts}
use Rattle.om_words.specs.declared.plan.WordPlan.{WordPlan}
use Rattle.om_words.specs.declared.plan.WordPlan.TheVariants.{Listed, Seeded}
use Rattle.om_model.specs.Data.CallEntry.{CallEntry}
use Rattle.om_model.specs.Output.Content.{Told, Content}
use Rattle.om_model.specs.Output.Head.{Head, rules_of}
use Rattle.om_model.specs.Pool.Rules.{canary_byte}
use Rattle.om_model.specs.Scripts.Outcomes.{is_fault}
use Rattle.om_model.specs.declared.looks.Look.{Look}
use Rattle.om_model.specs.declared.entry.Move.{Move}
use Rattle.om_model.specs.declared.entry.Entry.{Entry}
use Rattle.om_model.specs.declared.entry.Entry.TheVariants as entry
use Rattle.om_model.specs.declared.board.BoardEntry.{BoardEntry}
use Rattle.om_model.specs.declared.board.BoardEntry.TheVariants as posted
use Rattle.om_model.specs.declared.operation.Op.{Op}
use Rattle.om_model.specs.declared.operation.Op.TheVariants as op
use Rattle.om_model.specs.declared.reply.Why.{Why}
use Rattle.om_model.specs.declared.reply.Why.TheVariants.{Overflow, TooLarge, NoRun}
use Rattle.om_model.specs.declared.reply.Segv.{Segv}
use Rattle.om_model.specs.declared.reply.Segv.TheVariants.{Guard, Protected, Unmapped}
use Rattle.om_model.specs.declared.reply.Fault.{Fault}
use Rattle.om_model.specs.declared.reply.Fault.TheVariants as fault
use Rattle.om_model.specs.declared.reply.Reply.{Reply}
use Rattle.om_model.specs.declared.reply.Reply.TheVariants as reply
use Rattle.om_model.specs.declared.reply.Outcome.{Outcome}
use Rattle.om_model.specs.declared.reply.Outcome.TheVariants as outcome

abbrev pub hex : ℕ → List ℕ
hex n = codes "0x" ++ digits 16 false n

abbrev pub byte_text : ℕ → List ℕ
byte_text n = digit_glyph false (n / 16) ∷ digit_glyph false (n % 16) ∷ []

abbrev pub site_text : ℕ → List ℕ
site_text site = codes " @" ++ hex site

abbrev pub why_text : Why → List ℕ
why_text Overflow = codes "overflow"
why_text TooLarge = codes "toolarge"
why_text NoRun = codes "norun"

abbrev pub segv_text : Segv → List ℕ
segv_text Guard = codes "guard"
segv_text Protected = codes "protected"
segv_text Unmapped = codes "unmapped"

unfoldable pub fault_text : Fault → List ℕ
fault_text fault.DoubleFree = codes "fault double free"
fault_text fault.AlreadyFree = codes "fault chunk is already free"
fault_text fault.Bogus = codes "fault bogus pointer (double free?)"
fault_text fault.ModifiedPointer = codes "fault modified chunk-pointer"
fault_text (fault.Canary offset) = codes "fault canary corrupted " ++ decimal offset
fault_text (fault.WriteAfterFree address offset) = codes "fault write after free " ++ hex address ++ codes " " ++ decimal offset
fault_text (fault.OutOfMemory why) = codes "fault out of memory " ++ why_text why
fault_text (fault.Segmentation segv) = codes "fault segmentation fault " ++ segv_text segv

unfoldable pub op_text : Op → List ℕ
op_text (op.Malloc size site) = codes "malloc " ++ decimal size ++ site_text site
op_text (op.Calloc count size site) = codes "calloc " ++ decimal count ++ codes " " ++ decimal size ++ site_text site
op_text (op.Realloc address size site) = codes "realloc " ++ hex address ++ codes " " ++ decimal size ++ site_text site
op_text (op.Reallocarray address count size site) = codes "reallocarray " ++ hex address ++ codes " " ++ decimal count ++ codes " " ++ decimal size ++ site_text site
op_text (op.Free address) = codes "free " ++ hex address
op_text (op.Load address) = codes "load " ++ hex address
op_text (op.Store address byte) = codes "store " ++ hex address ++ codes " " ++ byte_text byte

unfoldable pub reply_text : Reply → List ℕ
reply_text (reply.Block address) = codes "block " ++ hex address
reply_text (reply.Null why) = codes "null " ++ why_text why
reply_text reply.Done = codes "done"
reply_text (reply.Byte byte) = codes "byte " ++ byte_text byte
reply_text reply.Miss = codes "miss"
reply_text (reply.Fault f) = fault_text f

unfoldable pub outcome_text : Outcome → List ℕ
outcome_text (outcome.Block address) = codes "block " ++ hex address
outcome_text (outcome.Null why) = codes "null " ++ why_text why
outcome_text outcome.Done = codes "done"
outcome_text (outcome.Byte byte) = codes "byte " ++ byte_text byte
outcome_text (outcome.Value value) = codes "value " ++ hex value
outcome_text outcome.Empty = codes "empty"
outcome_text outcome.Phase = codes "phase"
outcome_text (outcome.Fault f) = fault_text f

-- the parts of an entry behind its reply; a part without content is left out
abbrev pub word_text : ℕ → List ℕ
word_text word = codes " " ++ decimal word

abbrev pub words_text : List ℕ → List ℕ
words_text [] = []
words_text (word ∷ words) = codes " w" ++ flat_map word_text (word ∷ words)

abbrev pub look_text : Look → List ℕ
look_text look = codes " " ++ decimal look.zone ++ codes "@" ++ decimal look.version

abbrev pub taken_text : Option Look → List ℕ
taken_text None = []
taken_text (Some look) = codes " taken" ++ look_text look

abbrev pub looks_text : List Look → List ℕ
looks_text [] = []
looks_text (look ∷ looks) = codes " look" ++ flat_map look_text (look ∷ looks)

abbrev pub move_text : Move → List ℕ
move_text move = codes " " ++ decimal move.zone ++ codes "@" ++ decimal move.version ++ codes " " ++ decimal move.first ++ codes "+" ++ decimal move.count

abbrev pub claim_text : Option Move → List ℕ
claim_text None = []
claim_text (Some move) = codes " claim" ++ move_text move

abbrev pub release_text : Option Move → List ℕ
release_text None = []
release_text (Some move) = codes " release" ++ move_text move

-- who made a call: the caller, the command and the hop
abbrev pub who_text : CallEntry → List ℕ
who_text e = decimal e.who.caller ++ codes " " ++ decimal e.who.command ++ codes " " ++ decimal e.who.hop

unfoldable pub call_text : CallEntry → List ℕ
call_text e = who_text e ++ codes " " ++ op_text e.op ++ codes " = " ++ reply_text e.reply ++ words_text e.words ++ taken_text e.taken ++ looks_text e.looks ++ claim_text e.claim ++ release_text e.release

abbrev pub entry_text : Entry → List ℕ
entry_text (entry.Call e) = call_text e
entry_text (entry.Phase number) = codes "phase " ++ decimal number

unfoldable pub board_entry_text : BoardEntry → List ℕ
board_entry_text (posted.Post caller command cell value) = decimal caller ++ codes " " ++ decimal command ++ codes " post " ++ decimal cell ++ codes " " ++ hex value ++ codes " = done"
board_entry_text (posted.Take caller command cell (Some value)) = decimal caller ++ codes " " ++ decimal command ++ codes " take " ++ decimal cell ++ codes " = value " ++ hex value
board_entry_text (posted.Take caller command cell None) = decimal caller ++ codes " " ++ decimal command ++ codes " take " ++ decimal cell ++ codes " = empty"
board_entry_text (posted.Phase number) = codes "phase " ++ decimal number

abbrev pub flag : Bool → ℕ → ℕ
flag on letter = if on then letter else 45

-- the letters C, F, G, R, U, X, D, each where its option is on, and else -
abbrev pub flags_text : Opts → List ℕ
flags_text o = flag o.canary 67 ∷ flag o.freecheck 70 ∷ flag o.guard 71 ∷ flag o.always_move 82 ∷ flag o.unmap 85 ∷ flag o.xmalloc 88 ∷ flag o.dump 68 ∷ []

-- the listed words with commas between them, or the seed
abbrev pub plan_text : WordPlan → List ℕ
plan_text (Listed words) = codes "list " ++ join_with_byte 44 (map decimal words)
plan_text (Seeded seed) = codes "seed " ++ decimal seed

abbrev pub warning_line : ℕ → List ℕ
warning_line byte = codes "warning unknown option 0x" ++ byte_text byte

unfoldable pub head_lines : Head → List (List ℕ)
head_lines head =
    codes "omalloc 1"
    ∷ (codes "zones " ++ decimal head.zones ++ codes " pools " ++ decimal head.options.pools ++ codes " flags " ++ flags_text head.options ++ codes " junk " ++ decimal head.options.junk ++ codes " cache " ++ decimal head.options.cache)
    ∷ (codes "words " ++ plan_text head.plan)
    ∷ map warning_line head.warned

abbrev pub pool_title : Head → ℕ → ℕ → List ℕ
pool_title head pool entries = codes "pool " ++ decimal pool ++ codes " canary " ++ byte_text (canary_byte (rules_of head pool)) ++ codes " entries " ++ decimal entries

unfoldable pub pool_lines : Head → ℕ × List Entry → List (List ℕ)
pool_lines head numbered = pool_title head numbered.0 (length numbered.1) ∷ map entry_text numbered.1

unfoldable pub board_lines : List BoardEntry → List (List ℕ)
board_lines board = (codes "board entries " ++ decimal (length board)) ∷ map board_entry_text board

abbrev pub outcome_line : ℕ × Outcome → List ℕ
outcome_line numbered = decimal numbered.0 ++ codes " " ++ outcome_text numbered.1

-- the number of the first outcome that is a fault, or that there is none
abbrev pub ending_line : Option ℕ → List ℕ
ending_line None = codes "finished"
ending_line (Some i) = codes "faulted " ++ decimal (i + 1)

unfoldable pub script_lines : ℕ × Told → List (List ℕ)
script_lines numbered =
    ((codes "script " ++ decimal numbered.0 ++ codes " " ++ (numbered.1).name) ∷ map outcome_line (enumerate_from 1 (numbered.1).outcomes))
    ++ ending_line (position is_fault (numbered.1).outcomes) ∷ []

abbrev pub lines_of : Content → List (List ℕ)
lines_of content =
    head_lines content.head
    ++ flat_map (pool_lines content.head) (enumerate_from 0 content.journals)
    ++ board_lines content.board
    ++ flat_map script_lines (enumerate_from 0 content.transcripts)
    ++ codes "done" ∷ []

-- each line ends with byte 10
abbrev pub ended_line : List ℕ → List ℕ
ended_line text = text ++ 10 ∷ []

abbrev pub text_of : Content → List ℕ
text_of content = flat_map ended_line (lines_of content)

-- ---- the pieces in which the text is put together

abbrev pub warned_line : ℕ → List ℕ
warned_line byte = ended_line (warning_line byte)

abbrev pub entry_line : Entry → List ℕ
entry_line entry = ended_line (entry_text entry)

abbrev pub posted_line : BoardEntry → List ℕ
posted_line entry = ended_line (board_entry_text entry)

abbrev pub numbered_line : ℕ × Outcome → List ℕ
numbered_line numbered = ended_line (outcome_line numbered)

abbrev pub pool_text : Head → ℕ × List Entry → List ℕ
pool_text head numbered = flat_map ended_line (pool_lines head numbered)

abbrev pub script_text : ℕ × Told → List ℕ
script_text numbered = flat_map ended_line (script_lines numbered)
