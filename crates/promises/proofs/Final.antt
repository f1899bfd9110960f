-- The claims of specs/, each with its proof. Nothing else stands here.
-- Assumes nothing.
use Rattle.promises.specs.Table.{RulesInWords, NoneBroken, CheckAnswers, FreshAnswers, CollectAnswers}
use Rattle.promises.specs.Table.{LookAnswers, BatchAnswers, CallAnswers}
use Rattle.promises.specs.Collecting.{LiveCounts, CollectingKeeps}
use Rattle.promises.specs.Room.{RoomInWords, RoomNotLess}
use Rattle.promises.specs.Calls.{CallsDo, BatchesRun}
use Rattle.promises.specs.Outright.{CallsOutright}
use Rattle.promises.specs.Alike.{AlikeIsCollected, CollectionsNeverShow}
use Rattle.promises.specs.Printing.{TextInWords, OneText, PrintAnswers, PrintsAlike, CollectionsUnprinted}
use Rattle.promises.specs.Printing.{AlikePrinted}
use Rattle.promises.specs.Reading.{TermsBegin, ReadsBack, WritesBack, StopsLeftmost, OneRefusal}
use Rattle.promises.specs.Typing.{TypesDo, TypeAnswers}
use Rattle.promises.specs.Holding.{NewCellsOnly}
use Rattle.promises.specs.Again.{PrintedTyped, TypedPrinted, PrintsNoZero}
use Rattle.promises.specs.Pieces.{MostInWords, OneMost, CountAnswers, OneCount, CutAnywhere, FedAppend}
use Rattle.promises.specs.Pieces.{RefusedStays, CountTells}
use Rattle.promises.specs.Files.{FileInWords, OneFile, OneEdition, LoadAnswers, SaveAnswers}
use Rattle.promises.specs.Swap.{SavedLoads, LoadedIsSound, LoadedSaves}
use Rattle.promises.specs.Program.{ProgramWrites, ProgramReads}
use Rattle.promises.specs.ProgramRows.{ProgramRows}
use Rattle.promises.specs.Unique.{OneAnswer, OneCheck, OneFresh, OneCollected, OneLook, OneCollect, OneBatch}
use Rattle.promises.specs.Unique.{OneCall, OnePrint, OneType, OneProgram, OneLoad, OneSave}
use Rattle.promises.specs.OwnWords.{CodesInWords, FaultsInWords, FaultRows, OneFault}
use Rattle.promises.proofs.table.Cells as cells
use Rattle.promises.proofs.table.Tables as tables
use Rattle.promises.proofs.collecting.Keeping as keeping
use Rattle.promises.proofs.room.Seeking as seeking
use Rattle.promises.proofs.calls.Calling as calling
use Rattle.promises.proofs.outright.Twelve as twelve
use Rattle.promises.proofs.alike.Alikes as alikes
use Rattle.promises.proofs.alike.Striking as struck
use Rattle.promises.proofs.printing.Meeting as meeting
use Rattle.promises.proofs.printing.Printed as printing
use Rattle.promises.proofs.reading.Beginning as beginning
use Rattle.promises.proofs.reading.Refusing as reading
use Rattle.promises.proofs.pieces.Most as most
use Rattle.promises.proofs.pieces.Whole as whole
use Rattle.promises.proofs.pieces.Cutting as cutting
use Rattle.promises.proofs.typing.Typing as typing
use Rattle.promises.proofs.typing.Answers as typed
use Rattle.promises.proofs.typing.Again as again
use Rattle.promises.proofs.typing.Holding as holding
use Rattle.promises.proofs.files.Words as file_words_lem
use Rattle.promises.proofs.files.Loading as loading
use Rattle.promises.proofs.files.Saving as saving
use Rattle.promises.proofs.files.Swaps as swaps
use Rattle.promises.proofs.program.Written as program
use Rattle.promises.proofs.ownwords.Faults as faults
use Rattle.promises.proofs.unique.Calls as calls-once
use Rattle.promises.proofs.unique.Outcomes as once

-- ---- demand 1

pub rules_in_words : RulesInWords
rules_in_words = cells.rules_in_words

pub none_broken : NoneBroken
none_broken = cells.none_broken

pub check_answers : CheckAnswers
check_answers = tables.check_answers

pub fresh_answers : FreshAnswers
fresh_answers = tables.fresh_answers

pub collect_answers : CollectAnswers
collect_answers = tables.collect_answers

pub look_answers : LookAnswers
look_answers = tables.look_answers

pub batch_answers : BatchAnswers
batch_answers = tables.batch_answers

pub call_answers : CallAnswers
call_answers = tables.call_answers

-- ---- demand 2

pub live_counts : LiveCounts
live_counts = keeping.live_counts

pub collecting_keeps : CollectingKeeps
collecting_keeps = keeping.collecting_keeps

pub codes_in_words : CodesInWords
codes_in_words = faults.codes_in_words

pub faults_in_words : FaultsInWords
faults_in_words = faults.faults_in_words

pub fault_rows : FaultRows
fault_rows = faults.fault_rows

pub room_in_words : RoomInWords
room_in_words = seeking.room_in_words

pub room_not_less : RoomNotLess
room_not_less = seeking.room_not_less

pub calls_do : CallsDo
calls_do = calling.calls_do

pub calls_outright : CallsOutright
calls_outright = twelve.calls_outright

pub batches_run : BatchesRun
batches_run = calling.batches_run

-- ---- demand 3

pub alike_is_collected : AlikeIsCollected
alike_is_collected = alikes.alike_is_collected

pub collections_never_show : CollectionsNeverShow
collections_never_show = struck.collections_never_show

-- ---- printing

pub text_in_words : TextInWords
text_in_words = meeting.text_in_words

pub one_text : OneText
one_text = meeting.one_text

pub print_answers : PrintAnswers
print_answers = printing.print_answers

pub prints_alike : PrintsAlike
prints_alike = printing.prints_alike

pub collections_unprinted : CollectionsUnprinted
collections_unprinted = printing.collections_unprinted

pub alike_printed : AlikePrinted
alike_printed = printing.alike_printed

-- ---- a text read

pub terms_begin : TermsBegin
terms_begin = beginning.terms_begin

pub reads_back : ReadsBack
reads_back = reading.reads_back

pub writes_back : WritesBack
writes_back = reading.writes_back

pub stops_leftmost : StopsLeftmost
stops_leftmost = reading.stops_leftmost

-- ---- typed text

pub types_do : TypesDo
types_do = typing.types_do

pub type_answers : TypeAnswers
type_answers = typed.type_answers

pub new_cells_only : NewCellsOnly
new_cells_only = holding.new_cells_only

pub printed_typed : PrintedTyped
printed_typed = again.printed_typed

pub typed_printed : TypedPrinted
typed_printed = again.typed_printed

pub prints_no_zero : PrintsNoZero
prints_no_zero = again.prints_no_zero

-- ---- a text in pieces

pub most_in_words : MostInWords
most_in_words = most.most_in_words

pub one_most : OneMost
one_most = most.one_most

pub count_answers : CountAnswers
count_answers = whole.count_answers

pub cut_anywhere : CutAnywhere
cut_anywhere = cutting.cut_anywhere

pub fed_append : FedAppend
fed_append = cutting.fed_append

pub refused_stays : RefusedStays
refused_stays = cutting.refused_stays

pub count_tells : CountTells
count_tells = whole.count_tells

-- ---- files

pub file_in_words : FileInWords
file_in_words = file_words_lem.file_in_words

pub one_file : OneFile
one_file = file_words_lem.one_file

pub one_edition : OneEdition
one_edition = file_words_lem.one_edition

pub load_answers : LoadAnswers
load_answers = loading.load_answers

pub save_answers : SaveAnswers
save_answers = saving.save_answers

pub saved_loads : SavedLoads
saved_loads = swaps.saved_loads

pub loaded_is_sound : LoadedIsSound
loaded_is_sound = swaps.loaded_is_sound

pub loaded_saves : LoadedSaves
loaded_saves = swaps.loaded_saves

-- ---- the program

pub program_writes : ProgramWrites
program_writes = program.program_writes

pub program_reads : ProgramReads
program_reads = program.program_reads

pub program_rows_lem : ProgramRows
program_rows_lem = program.program_rows_lem

-- ---- one outcome

pub one_answer : OneAnswer
one_answer = once.one_answer

pub one_check : OneCheck
one_check = once.one_check

pub one_fresh : OneFresh
one_fresh = once.one_fresh

pub one_collected : OneCollected
one_collected = once.one_collected

pub one_look : OneLook
one_look = once.one_look

pub one_collect : OneCollect
one_collect = once.one_collect

pub one_fault : OneFault
one_fault = faults.one_fault

pub one_call : OneCall
one_call = calls-once.one_call

pub one_batch : OneBatch
one_batch = once.one_batch

pub one_print : OnePrint
one_print = printing.one_print

pub one_refusal : OneRefusal
one_refusal = reading.one_refusal

pub one_type : OneType
one_type = typed.one_type

pub one_count : OneCount
one_count = whole.one_count

pub one_program : OneProgram
one_program = program.one_program

pub one_load : OneLoad
one_load = loading.one_load

pub one_save : OneSave
one_save = saving.one_save
