-- The store in which room is sought, by the operand registers of each call: from the table of operand words.
-- Assumes nothing.
use mathlib.Core.Path.{◌≡◌, refl, sym}
use mathlib.Core.Logic.{◌⊎◌, inl, inr, ◌≢◌}
use mathlib.Core.Bool.{true, false}
use mathlib.Core.List.{List}
use Prim.Native.Nat.{ℕ}
use borrow.Author.Tests.{ne_eqb}
use Rattle.meaning.specs.Operands.{Op, SYMBOL, WRAP, JOIN, ops, op_at, uses, names, is_operand}
use Rattle.meaning.specs.Call.{keeps, sought_by}
use Rattle.meaning.proofs.operands.Uses.{keeps_a, keeps_b}
use Rattle.meaning.proofs.call.Sought.{sought_kept, sought_empty, sought_live}
use Rattle.promises.specs.Room.{without, RoomInWords, RoomNotLess}

-- by whether d is kept
module _ (o : Op) (ws : List ℕ) (d a b : ℕ) where
  leaves_out : keeps o d a b ≡ false → sought_by o d a b ws ≡ without d ws
  leaves_out e = rw e (sought_empty d ws)

  as_it_is : keeps o d a b ≡ true → sought_by o d a b ws ≡ ws
  as_it_is e = rw e (sought_kept d ws)

module _ (d a b : ℕ) where
  symbol_unkept : keeps SYMBOL d a b ≡ false
  unfolding keeps is_operand names uses
  symbol_unkept = refl

  wrap_unkept : d ≢ a → keeps WRAP d a b ≡ false
  unfolding keeps is_operand names uses
  wrap_unkept n = rw (ne_eqb a d (λ e. n (sym e))) refl

  join_unkept : d ≢ a → d ≢ b → keeps JOIN d a b ≡ false
  unfolding keeps is_operand names uses
  join_unkept n m = rw (ne_eqb a d (λ e. n (sym e)), ne_eqb b d (λ e. m (sym e))) refl

  wrap_kept : d ≡ a → keeps WRAP d a b ≡ true
  unfolding uses
  wrap_kept e = keeps_a WRAP d a b refl (sym e)

  join_kept : (d ≡ a) ⊎ (d ≡ b) → keeps JOIN d a b ≡ true
  unfolding uses
  join_kept (inl e) = keeps_a JOIN d a b refl (sym e)
  join_kept (inr e) = keeps_b JOIN d a b refl (sym e)

pub room_in_words : RoomInWords
unfolding op_at ops
room_in_words ws d a b = record {
  symbols = leaves_out SYMBOL ws d a b (symbol_unkept d a b);
  texts = sought_empty d ws;
  wraps = λ n. leaves_out WRAP ws d a b (wrap_unkept d a b n);
  wraps_own = λ e. as_it_is WRAP ws d a b (wrap_kept d a b e);
  joins = λ n m. leaves_out JOIN ws d a b (join_unkept d a b n m);
  joins_own = λ e. as_it_is JOIN ws d a b (join_kept d a b e);
}

pub room_not_less : RoomNotLess
room_not_less F p ws top s d l = rw (sought_empty d ws) at (sought_live F ws top p s false d (λ _. l))
