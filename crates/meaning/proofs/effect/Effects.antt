-- Laws over an effect, whatever it is the effect of: what an action has to do in the store in which it acts, shown for
-- one that sets a register, with new cells or without, for a refusal, and for one that changes no register. In order:
--   Denote, Others           the registers of a store denote e;  all but d do
--   Stays                    the words after a refusal are those before it
--   Acts                     what an action has to do in the store in which it acts
--   meaning_at               a register denotes what is inside its bracket
--   new_acts, set_acts       register d is set, with new cells and without
--   refuse_acts, tell_acts   a refusal;  an answer that changes no register
-- Assumes nothing.
use mathlib.Core.Path.{◌≡◌, refl, sym, ◌∙◌}
use mathlib.Core.Logic.{◌≢◌}
use mathlib.Core.Bool.{Bool, true, false, cond}
use mathlib.Core.List.{List}
use Prim.Native.Nat.{ℕ, zero, suc, ◌+◌, ◌<◌}
use native.Mathlib.Nat.{add-zero}
use lib.Dec.{eqb}
use lib.ListN.{length}
use borrow.Author.Tests.{eqb-true, eqb-false}
use Rattle.meaning.specs.Expr.{Expr}
use Rattle.meaning.specs.Sound.{Cell, at, Sound}
use Rattle.meaning.specs.Meaning.{inside, term, meaning, term_at}
use Rattle.meaning.specs.Verdicts.{Done, done, refused, only}
use Rattle.meaning.specs.Actions.{put}
use Rattle.meaning.specs.Effect.{Effect, becomes, sets, tells, after, answer}
use Rattle.meaning.proofs.sound.Cells.{BracketIn}
use Rattle.meaning.proofs.actions.Writing.{length_put, sound_register, meaning_set, meaning_other}
use Rattle.meaning.proofs.actions.Laying.{Extends, extends_self, extends_meaning}

-- the registers of a store denote e
abbrev pub Denote : ℕ → List ℕ → (ℕ → Expr) → Type 0
Denote F ws e = (i : ℕ) → i < F → meaning ws i ≡ e i

-- all but d
abbrev pub Others : ℕ → List ℕ → (ℕ → Expr) → ℕ → Type 0
Others F ws e d = (i : ℕ) → i < F → i ≢ d → meaning ws i ≡ e i

abbrev pub Stays : ℕ → List ℕ → List ℕ → Type 0
Stays zero ws ws' = Unit {0}
Stays (suc s) ws ws' = ws' ≡ ws

-- what an action with the effect x has to do in the store in which it acts, where it lays n new cells; `e` are the
-- registers' expressions before it
pub record Acts (F : ℕ) (e : ℕ → Expr) (x : Effect) (n : ℕ) (ws : List ℕ) (top : ℕ) (r : Done) : Type 0 where
  pub sound : Sound F r.words r.top
  pub len : length r.words ≡ length ws
  pub status : r.verdict.status ≡ x.unfit
  pub value : r.verdict.value ≡ answer r.verdict.status x
  pub rule : r.verdict.rule ≡ 0
  pub registers : (i : ℕ) → i < F → meaning r.words i ≡ after r.verdict.status x e i
  pub tops : r.top ≡ top + n
  pub left : Stays r.verdict.status ws r.words

becomes_same : (e e' : ℕ → Expr) (d : ℕ) (x : Expr) (i : ℕ) → (i ≢ d → e i ≡ e' i)
    → becomes e d x i ≡ becomes e' d x i
unfolding becomes
becomes_same e e' d x i q = go (eqb i d) refl
  where
    go : (t : Bool) → eqb i d ≡ t → cond t x (e i) ≡ cond t x (e' i)
    go true h = refl
    go false h = q (eqb-false i d h)

-- register d is set to the bracket k, which holds x
module _ (F : ℕ) (ws : List ℕ) (top : ℕ) (p : 0 < F) (s : Sound F ws top) where
  become : (d : ℕ) → d < F → (k : Cell) → BracketIn F top k → (x : Expr) → inside (term_at ws) k ≡ x
      → (i : ℕ) → i < F → meaning (put ws d k) i ≡ becomes (meaning ws) d x i
  unfolding becomes
  become d l k t x q i h = go (eqb i d) refl
    where
      go : (u : Bool) → eqb i d ≡ u → meaning (put ws d k) i ≡ cond u x (meaning ws i)
      go true v = let w : i ≡ d = eqb-true i d v in rw w (meaning_set F ws top p s d l k t ∙ q)
      go false v = meaning_other F ws top p s d l k t i h (eqb-false i d v)

  pub meaning_at : (a : ℕ) → meaning ws a ≡ inside (term_at ws) (at ws a)
  unfolding meaning
  meaning_at a = refl

module _ (F : ℕ) (p : 0 < F) (e : ℕ → Expr) (ws : List ℕ) (top : ℕ) (s : Sound F ws top) where
  -- register d is set to the bracket k once n new cells are laid
  pub new_acts : (u j d : ℕ) → u ≡ 0 → Others F ws e d → d < F → (ws' : List ℕ) (top' : ℕ) → Extends F ws top ws' top'
      → (k : Cell) → BracketIn F top' k → (x : Expr) → inside (term (at ws') (length ws')) k ≡ x
      → (n : ℕ) → top' ≡ top + n → Acts F e (sets u e d x j) n ws top (done (put ws' d k) top' 0)
  new_acts u j d y m l ws' top' x k t v q n z = record {
    sound = sound_register F ws' top' p x.sound d l k t;
    len = length_put ws' d k ∙ x.len;
    status = sym y;
    value = refl;
    rule = refl;
    registers = λ i h.
        become F ws' top' p x.sound d l k t v q i h
        ∙ becomes_same (meaning ws') e d v i (λ g. extends_meaning F ws top p s ws' top' x i h ∙ m i h g);
    tops = z;
    left = tt;
  }

  -- and with no new cell
  pub set_acts : (u j d : ℕ) → u ≡ 0 → Others F ws e d → d < F → (k : Cell) → BracketIn F top k → (x : Expr)
      → inside (term_at ws) k ≡ x → Acts F e (sets u e d x j) 0 ws top (done (put ws d k) top 0)
  set_acts u j d y m l k t x q =
      new_acts u j d y m l ws top (extends_self F ws top p s) k t x q 0 (sym (add-zero top))

  -- where every register denotes what it did
  module _ (m : Denote F ws e) where
    pub refuse_acts : (x : Effect) (u : ℕ) → x.unfit ≡ suc u → Acts F e x 0 ws top (refused ws top (only (suc u)))
    refuse_acts x u q = record {
      sound = s;
      len = refl;
      status = sym q;
      value = refl;
      rule = refl;
      registers = m;
      tops = sym (add-zero top);
      left = refl;
    }

    pub tell_acts : (u v w : ℕ) (c : Bool) → u ≡ 0 → v ≡ w → Acts F e (tells u e v c) 0 ws top (done ws top w)
    tell_acts u v w c z y = record {
      sound = s;
      len = refl;
      status = sym z;
      value = sym y;
      rule = refl;
      registers = m;
      tops = sym (add-zero top);
      left = tt;
    }
