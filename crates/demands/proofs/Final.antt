-- The claims of specs/, each with its proof. Nothing else stands here.
-- Assumes nothing.
use Rattle.demands.specs.Promised.{CheckSays, FreshSays, LookSays, SpanSays, CollectSays, RunSays, PrintSays}
use Rattle.demands.specs.Promised.{TypeSays, StartSays, FeedSays, EndSays, LoadSays, SaveSays}
use Rattle.demands.specs.Run.{CheckMeets, FreshMeets, LookMeets, SpanMeets, CollectMeets, RunMeets, PrintMeets}
use Rattle.demands.specs.Run.{PrintsNeverShow}
use Rattle.demands.specs.Texts.{TypeMeets, PrintThenType, TypeThenPrint}
use Rattle.demands.specs.Pieces.{PiecesCount, PiecesAlike, RefusedForGood, EndMeets, FeedsAppend, PiecesThenType}
use Rattle.demands.specs.Files.{LoadMeets, SaveMeets, SaveThenLoad, LoadThenSave}
use Rattle.demands.specs.Runs.{RunsNeverShow, FreshRunsNeverShow}
use Rattle.demands.specs.Example.{PremisesMet, HistoriesUnseen, OneMoreCollection}
use Rattle.demands.proofs.Uses as uses
use Rattle.demands.proofs.Texts as texts
use Rattle.demands.proofs.Pieces as pieces
use Rattle.demands.proofs.Files as files
use Rattle.demands.proofs.Histories as histories
use Rattle.demands.proofs.Stores as stores

-- ---- what the contracts say, read as they stand

pub check_says : CheckSays
check_says κs ws top = (tt, λ r v h. h)

pub fresh_says : FreshSays
fresh_says κs ws = (tt, λ r v h. h)

pub look_says : LookSays
look_says κs ws top i = (tt, λ r v h. h)

pub span_says : SpanSays
span_says κs ws top i = (tt, λ r v h. h)

pub collect_says : CollectSays
collect_says κs ws top = (tt, λ r v h. h)

pub run_says : RunSays
run_says κs ws top calls out = (tt, λ r v c a h. h)

pub print_says : PrintSays
print_says κs ws top i out = (tt, λ r v a h. h)

pub type_says : TypeSays
type_says κs ws top d bs = (tt, λ r v b h. h)

pub start_says : StartSays
start_says κs = (tt, λ r h. h)

pub feed_says : FeedSays
feed_says κs s piece = (tt, λ r b h. h)

pub end_says : EndSays
end_says κs s = (tt, λ r h. h)

pub load_says : LoadSays
load_says κs ws bs = (tt, λ r v b h. h)

pub save_says : SaveSays
save_says κs ws top out = (tt, λ r v a h. h)

-- ---- demands 1 and 2

pub check_meets : CheckMeets
check_meets = uses.check_meets

pub fresh_meets : FreshMeets
fresh_meets = uses.fresh_meets

pub look_meets : LookMeets
look_meets = uses.look_meets

pub span_meets : SpanMeets
span_meets = uses.span_meets

pub collect_meets : CollectMeets
collect_meets = uses.collect_meets

pub run_meets : RunMeets
run_meets = uses.run_meets

pub print_meets : PrintMeets
print_meets = uses.print_meets

pub type_meets : TypeMeets
type_meets = texts.type_meets

pub print_then_type : PrintThenType
print_then_type = texts.print_then_type

pub type_then_print : TypeThenPrint
type_then_print = texts.type_then_print

pub pieces_count : PiecesCount
pieces_count = pieces.pieces_count

pub pieces_alike : PiecesAlike
pieces_alike = pieces.pieces_alike

pub refused_for_good : RefusedForGood
refused_for_good = pieces.refused_for_good

pub end_meets : EndMeets
end_meets = pieces.end_meets

pub feeds_append : FeedsAppend
feeds_append = pieces.feeds_append

pub pieces_then_type : PiecesThenType
pieces_then_type = pieces.pieces_then_type

pub load_meets : LoadMeets
load_meets = files.load_meets

pub save_meets : SaveMeets
save_meets = files.save_meets

pub save_then_load : SaveThenLoad
save_then_load = files.save_then_load

pub load_then_save : LoadThenSave
load_then_save = files.load_then_save

-- ---- demand 3

pub prints_never_show : PrintsNeverShow
prints_never_show = uses.prints_never_show

pub runs_never_show : RunsNeverShow
runs_never_show = histories.runs_never_show

pub fresh_runs_never_show : FreshRunsNeverShow
fresh_runs_never_show = histories.fresh_runs_never_show

-- ---- the example

pub premises_met : PremisesMet
premises_met = stores.premises_met

pub histories_unseen : HistoriesUnseen
histories_unseen = stores.histories_unseen

pub one_more_collection : OneMoreCollection
one_more_collection = stores.one_more_collection
