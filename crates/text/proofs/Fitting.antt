-- A text that is written as far as it goes is printed as the definition says. In order:
--   page_ended                             what comes of a page, by the answer that goes with it
--   deep_ended, short_ended                the same of a page that stopped
--   Fate, fate                             the first trouble, and the page that it leaves
--   ended_printed                          a text written into a whole space
--   register_prints                        so is a register's expression
-- Assumes nothing.
use mathlib.Core.Path.{◌≡◌, refl, sym, ap, ◌∙◌}
use mathlib.Core.Logic.{◌⊎◌, inl, inr}
use mathlib.Core.Bool.{Bool, true, false, cond, true≢false}
use mathlib.Core.List.{List, [], ◌∷◌, ◌++◌}
use Rattle.std.specs.Prelude.{Result, Ok, Err}
use Prim.Native.Nat.{ℕ, ◌+◌, ◌-◌, ◌≤◌, ◌<◌}
use native.Mathlib.Omega.{arith}
use lib.Dec.{eqb}
use lib.ListN.{length, drop, set, length-set, length-append, length-drop}
use lib.Seq.{take_at}
use borrow.Author.Tests.{eqb-true, eqb-false}
use Rattle.octets.specs.Space as space
use Rattle.octets.specs.Space.{Space, up_to, put_byte, write, filled}
use Rattle.octets.proofs.Spaces.{put_in, put_past, same_space}
use Rattle.octets.proofs.Final.{write_fits, write_short}
use Rattle.meaning.specs.Limits.{first_heap_cell, depth_limit}
use Rattle.meaning.specs.Sound.{at, Sound}
use Rattle.meaning.specs.Meaning.{run, term_at, meaning}
use Rattle.meaning.specs.Verdicts.{only}
use Rattle.meaning.specs.Text.{text, left_after, too_deep, trouble, unprinted, printed}
use Rattle.meaning.proofs.Lists.{lt_or_ge}
use Rattle.meaning.proofs.text.Printing.{whole, troubled, print_register}
use Rattle.store.specs.Holds.{RunIs}
use Rattle.store.specs.declared.Run.{Run}
use Rattle.text.specs.Answers.{printed_in, Prints}
use Rattle.text.specs.declared.writers.Stop.{Stop}
use Rattle.text.specs.declared.writers.Stop.TheVariants.{ShortSpace, TooDeep}
use Rattle.text.specs.Page.{Page, reached, plain, halted, stopped, next, writes, ended}
use Rattle.text.specs.Page.{page, as_printed, zeroed}
use Rattle.text.proofs.Pages.{writes_stopped}
use Rattle.text.proofs.Steps.{stop_here, register_is}

-- ---- what comes of a page

-- zeros behind the text, or everywhere
pub page_ended : (out : List ℕ) (r : Result ℕ Stop)
    → printed_in (as_printed r) (zeroed (as_printed r) out) ≡ ended (page out r)
unfolding ended
page_ended out (Ok n) = refl
page_ended out (Err (ShortSpace place)) = refl
page_ended out (Err (TooDeep place)) = refl

module _ (g : Page) where
  deep_ended : g.deep ≡ true → ended g ≡ unprinted (only 21) (length g.space.bytes)
  unfolding ended
  deep_ended d = rw d refl

  short_ended : g.deep ≡ false → g.space.short ≡ true → ended g ≡ unprinted (only 22) (length g.space.bytes)
  unfolding ended
  short_ended d h = rw (d, h) refl

-- ---- the first trouble

-- a page g on which nothing went wrong, and s as it would be with every byte: the status, and what the page is then
data Fate (s : Space) : ℕ → Page → Type 0 where
  all : s.short ≡ false → Fate s 0 (record { space = s; deep = false })
  deep : {g : Page} → g.deep ≡ true → Fate s 21 g
  short : {g : Page} → g.deep ≡ false → g.space.short ≡ true → Fate s 22 g

abbrev going : Space → Page
going s = record { space = s; deep = false }

-- a byte that does not fit
past_fate : (left b : ℕ) (bs : List ℕ) (s w : Space) → s.short ≡ false → length s.bytes ≤ s.place
    → Fate w 22 (writes left bs (plain b (going s)))
past_fate left b bs s w e h =
    let g = plain b (going s) in
    let q : g.space.short ≡ true = ap (λ (x : Space). x.short) (put_past s b e h) in
    rw (writes_stopped g q left bs) (short refl q)

-- a bracket that is one too many
stop_fate : (left : ℕ) (bs : List ℕ) (s w : Space) → s.short ≡ false → Fate w 21 (writes left bs (stopped (going s)))
stop_fate left bs s w e =
    rw (← stop_here (going s) e, writes_stopped (halted (going s)) refl left bs) (deep refl)

-- how many bytes are left of a space, and the space after a byte that fits
abbrev room : Space → ℕ
room s = length s.bytes - s.place

abbrev after : ℕ → Space → Space
after b s = up_to (set s.bytes s.place b) (s.place + 1)

abbrev Fares : ℕ → List ℕ → Space → Type 0
Fares left bs s = Fate (write bs s) (trouble left (room s) bs) (writes left bs (going s))

module _ (left b : ℕ) (bs : List ℕ) (s : Space) (e : s.short ≡ false) where
  -- one byte, and the rest of the text behind it
  fits_fate : s.place < length s.bytes → Fares (left_after left b) bs (after b s)
      → Fate (write bs (put_byte b s)) (trouble (left_after left b) (room s - 1) bs)
      (writes (left_after left b) bs (plain b (going s)))
  fits_fate l r =
      let k : room (after b s) ≡ room s - 1 = omega (arith, length-set s.bytes s.place b) in
      rw (put_in s b e l) (rw k at r)

  byte_fate : (s.place < length s.bytes → Fares (left_after left b) bs (after b s)) → Fares left (b ∷ bs) s
  unfolding next
  byte_fate r = go (too_deep left b) (eqb (room s) 0) refl
    where
      go : (t u : Bool) → eqb (room s) 0 ≡ u
          → Fate (write bs (put_byte b s)) (cond t 21 (cond u 22 (trouble (left_after left b) (room s - 1) bs)))
          (writes (left_after left b) bs (cond t (stopped (going s)) (plain b (going s))))
      go true u q = stop_fate (left_after left b) bs s (write bs (put_byte b s)) e
      go false true q =
          past_fate (left_after left b) b bs s (write bs (put_byte b s)) e (omega (arith, eqb-true (room s) 0 q))
      go false false q =
          let l : s.place < length s.bytes = omega (arith, eqb-false (room s) 0 q) in fits_fate l (r l)

fate : (left : ℕ) (bs : List ℕ) (s : Space) → s.short ≡ false → s.place ≤ length s.bytes → Fares left bs s
fate left [] s e h = all e
fate left (b ∷ bs) s e h =
    byte_fate left b bs s e
    (λ l. fate (left_after left b) bs (after b s) refl (omega (arith, length-set s.bytes s.place b)))

-- ---- a text written into a whole space

-- every page of a text has as many bytes as the space that is lent
stopped_length : (g : Page) → length (stopped g).space.bytes ≡ length g.space.bytes
unfolding stopped
stopped_length g = go g.space.short
  where
    go : (t : Bool) → length (cond t g (halted g)).space.bytes ≡ length g.space.bytes
    go true = refl
    go false = refl

next_length : (left b : ℕ) (g : Page) → length (next left b g).space.bytes ≡ length g.space.bytes
unfolding next
next_length left b g = go (too_deep left b)
  where
    go : (t : Bool) → length (cond t (stopped g) (plain b g)).space.bytes ≡ length g.space.bytes
    go true = stopped_length g
    go false = same_space [] (b ∷ []) (put_byte b g.space) g.space refl

writes_length : (left : ℕ) (bs : List ℕ) (g : Page) → length (writes left bs g).space.bytes ≡ length g.space.bytes
writes_length left [] g = refl
writes_length left (b ∷ bs) g = writes_length (left_after left b) bs (next left b g) ∙ next_length left b g

module _ (t out : List ℕ) where
  abbrev n : ℕ
  n = length out

  fits : (write t (space.blank out)).short ≡ false → length t ≤ n
  fits e = go (lt_or_ge n (length t))
    where
      go : (n < length t) ⊎ (length t ≤ n) → length t ≤ n
      go (inl l) = absurd (true≢false (sym (write_short t out l) ∙ e))
      go (inr l) = l

  ended_whole : length t ≤ n
      → ended (going (write t (space.blank out))) ≡ record { verdict = only 0; size = length t; space = filled n t }
  unfolding ended
  ended_whole h =
      let k : length (t ++ drop (length t) out) ≡ n =
      omega (arith, length-append t (drop (length t) out), length-drop (length t) out) in
      rw (write_fits t out h, k, take_at t (drop (length t) out) (length t) refl) refl

  ended_printed : ended (writes depth_limit t (reached out 0)) ≡ printed t n
  ended_printed =
      go (trouble depth_limit (n - 0) t) (writes depth_limit t (reached out 0)) refl
      (writes_length depth_limit t (reached out 0))
      (fate depth_limit t (space.blank out) refl (omega arith))
    where
      z : n - 0 ≡ n
      z = omega arith

      go : (s : ℕ) (g : Page) → trouble depth_limit (n - 0) t ≡ s → length g.space.bytes ≡ n
          → Fate (write t (space.blank out)) s g → ended g ≡ printed t n
      go s g q k (all e) = ended_whole (fits e) ∙ sym (whole t n (rw z at q))
      go s g q k (deep d) =
          deep_ended g d ∙ rw k (sym (troubled t n (rw z at q)))
      go s g q k (short d e) =
          short_ended g d e ∙ rw k (sym (troubled t n (rw z at q)))

-- a register's expression, written from the start of the space
pub register_prints : (ws : List ℕ) (top i : ℕ) (r : Run) (out out' : List ℕ) (end : Result ℕ Stop)
    → Sound first_heap_cell ws top → i < first_heap_cell → RunIs r (at ws i)
    → page out' end ≡ writes depth_limit (text (run (term_at ws) r.start r.size)) (reached out 0)
    → Prints ws top i out (as_printed end) (zeroed (as_printed end) out')
register_prints ws top i r out out' end s h k w =
    let t = text (run (term_at ws) r.start r.size) in
    let m : text (meaning ws i) ≡ t = ap text (register_is ws top s i h r k) in
    page_ended out' end ∙ (ap ended w ∙ (ended_printed t out
    ∙ rw (← m) (sym (print_register first_heap_cell ws top i (length out) s h))))
