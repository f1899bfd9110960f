-- The tables of stores, of texts and of files to try are right: one computation each.
-- Assumes nothing.
use Rattle.words.specs.Second.{flag, decode}
use Rattle.octets.specs.Decimal.{decimal}
use Rattle.octets.specs.Space.{filled}
use Rattle.meaning.specs.Limits.{first_heap_cell, limit, code_test, depth_limit, terms_limit, program_cells}
use Rattle.meaning.specs.Limits.{program_bytes, edition}
use Rattle.meaning.specs.Sound.{at}
use Rattle.meaning.specs.Meaning.{meaning}
use Rattle.meaning.specs.Reach.{reached, live}
use Rattle.meaning.specs.Collected.{new_address, collected_of, collected}
use Rattle.meaning.specs.Check.{bracket_rule, below_rule, broken_rule, cell_test, length_test, top_test, verdict_at}
use Rattle.meaning.specs.Check.{check, collect_in}
use Rattle.meaning.specs.Fresh.{fresh}
use Rattle.meaning.specs.Operands.{ops, op_at, uses, names, is_operand, wrong11, wrong12, wrong13, fault}
use Rattle.meaning.specs.Actions.{put, copy, share, head, rest, open_term, open_first, code_term, code_first}
use Rattle.meaning.specs.Actions.{new_symbol, new_bracket, new_run_of, new_run}
use Rattle.meaning.specs.Call.{keeps, sought, plan_of, lacks, room_words, room_top, with_room, carry_out, perform}
use Rattle.meaning.specs.Call.{step_after, step}
use Rattle.meaning.specs.Program.{written, refusal, output, input_fault, program}
use Rattle.meaning.specs.Rows.{verdict_test, done_test, ran_test, row_test, p1, p1_lines, p2, p3_heap, p3, p6, lone}
use Rattle.meaning.specs.Rows.{p11, p11_store, two, breaks, rows, RowsRight}
use Rattle.meaning.specs.Text.{left_after, too_deep, printed, print_in}
use Rattle.meaning.specs.Judge.{is_digit, with_digit, first_move, later_move, more_move}
use Rattle.meaning.specs.Reader.{is_full, at_start, is_whole, stop_verdict, read, blank}
use Rattle.meaning.specs.Lay.{new_cells}
use Rattle.meaning.specs.Typed.{typed_of, type_in}
use Rattle.meaning.specs.TextRows.{print_test, type_test, text_row_test, t1, t1_store, nest, t11, t11_store, dead}
use Rattle.meaning.specs.TextRows.{behind, held, refuses, text_rows, TextRowsRight}
use Rattle.meaning.specs.Pieces.{feed, fits, fed, no_pieces, counted}
use Rattle.meaning.specs.PieceRows.{count_test, piece_row_test, text, many, deepest, odd, piece_rows, PieceRowsRight}
use Rattle.meaning.specs.File.{first_of, file_words, file_of, trailer, cells_in, image, distance_test, capacity_test}
use Rattle.meaning.specs.File.{check_store, check_as, check_file, load_in, saved_as, save_in}
use Rattle.meaning.specs.FileRows.{save_test, load_test, file_row_test, junk, bare, empty, one, full, broken}
use Rattle.meaning.specs.FileRows.{turns_away, saving_rows, loading_rows, FileRowsRight}

pub rows_right : RowsRight first_heap_cell
unfolding limit code_test program_cells program_bytes at reached live new_address collected_of collected decode flag
    bracket_rule below_rule broken_rule cell_test length_test top_test verdict_at check fresh collect_in ops op_at uses
    wrong11 wrong12 wrong13 fault put copy share head rest open_term open_first code_term code_first new_symbol
    new_bracket new_run_of new_run names is_operand keeps sought plan_of lacks room_words room_top with_room carry_out
    perform step_after step decimal written refusal output input_fault program verdict_test done_test ran_test row_test
    p1 p1_lines p2 p3_heap p3 p6 lone p11 p11_store two breaks rows
rows_right = tt

pub text_rows_right : TextRowsRight first_heap_cell
unfolding limit code_test depth_limit terms_limit at meaning decode flag bracket_rule below_rule broken_rule cell_test
    length_test top_test verdict_at check decimal filled left_after too_deep printed print_in verdict_test p6 lone
    print_test text_row_test t1 t1_store nest text_rows is_digit with_digit first_move later_move more_move is_full
    at_start is_whole stop_verdict read blank put reached live new_address collected_of collected fresh sought lacks
    room_words room_top with_room carry_out new_cells typed_of type_in type_test t11 t11_store dead behind held refuses
text_rows_right = tt

pub piece_rows_right : PieceRowsRight
unfolding code_test depth_limit terms_limit is_digit with_digit first_move later_move more_move is_full at_start
    is_whole stop_verdict feed fits fed no_pieces counted verdict_test t1 t11 count_test piece_row_test text many
    deepest odd piece_rows
piece_rows_right = tt

pub file_rows_right : FileRowsRight edition first_heap_cell
unfolding limit code_test at reached live new_address collected_of collected decode flag bracket_rule below_rule
    broken_rule cell_test length_test top_test verdict_at check fresh filled verdict_test p2 p3_heap p3 lone first_of
    file_words file_of trailer cells_in image distance_test capacity_test check_store check_as check_file load_in
    saved_as save_in save_test load_test file_row_test junk bare empty one full broken turns_away saving_rows
    loading_rows
file_rows_right = tt
