-- One outcome: what the claims say of a check, a fresh store, a collection, a look, a batch, a print, a typed text, a
-- file loaded, a store saved and the program leaves no second answer, word or byte (SCOPE 8.5). The contracts of the
-- code are equations, of answers by their numbers and values: two outcomes of one equation are equal. Assumes nothing.
use Rattle.std.specs.Prelude.{◌≡◌, List, ℕ, ◌<◌, get_or}
use Rattle.meaning.specs.Sound.{Sound}
use Rattle.meaning.specs.Collected.{collected}
use Rattle.meaning.specs.Verdicts.{Verdict, Done}
use Rattle.meaning.specs.Batch.{Outcome}
use Rattle.meaning.specs.Text.{Printed}
use Rattle.meaning.specs.File.{Saved}
use Rattle.promises.specs.Table.{CheckTable, FreshTable, CollectTable, LookTable, BatchTable}
use Rattle.promises.specs.Calls.{Called, BatchRun}
use Rattle.promises.specs.Collecting.{CollectedFrom}
use Rattle.promises.specs.Printing.{PrintTable}
use Rattle.promises.specs.Typing.{TypeTable}
use Rattle.promises.specs.Files.{LoadTable, SaveTable}
use Rattle.promises.specs.Program.{ProgramTable}

-- an answer of which the promise says its number and values: two answers with the same numbers and values are one
abbrev pub OneAnswer : Type 1
OneAnswer =
    (A B : Type 0) (numbers : A → B) → ((x y : A) → numbers x ≡ numbers y → x ≡ y)
    → (b : B) (x y : A) → numbers x ≡ b → numbers y ≡ b → x ≡ y

abbrev pub OneCheck : Type 0
OneCheck = (F : ℕ) (ws : List ℕ) (top : ℕ) (v w : Verdict) → CheckTable F ws top v → CheckTable F ws top w → v ≡ w

abbrev pub OneFresh : Type 0
OneFresh = (F : ℕ) (ws : List ℕ) (r q : Done) → FreshTable F ws r → FreshTable F ws q → r ≡ q

-- the words by what is said of a collected store, cell by cell
abbrev pub OneCollected : Type 0
OneCollected =
    (F : ℕ) → 0 < F → (ws : List ℕ) (top : ℕ) → Sound F ws top → (v : List ℕ) → CollectedFrom F ws top v
    → v ≡ collected F ws top

abbrev pub OneLook : Type 0
OneLook =
    (F : ℕ) → 0 < F → (ws : List ℕ) (top i : ℕ) (x y : List ℕ) → LookTable F ws top i x → LookTable F ws top i y → x ≡ y

abbrev pub OneCollect : Type 0
OneCollect = (F : ℕ) (ws : List ℕ) (top : ℕ) (r q : Done) → CollectTable F ws top r → CollectTable F ws top q → r ≡ q

-- one call, whatever its words are
abbrev pub OneCall : Type 0
OneCall =
    (F : ℕ) → 0 < F → (ws : List ℕ) (top : ℕ) → Sound F ws top → (o d a b n : ℕ) (r q : Done)
    → Called F ws top o d a b n r → Called F ws top o d a b n q → r ≡ q

-- a batch that is refused by its table, one that is run by its calls
pub record BatchPromise (F : ℕ) (ws : List ℕ) (top : ℕ) (calls out : List ℕ) (r : Outcome) : Type 0 where
  pub table : BatchTable F ws top calls out r
  pub run : r.verdict.status ≡ 0 → BatchRun F ws top calls out r

abbrev pub OneBatch : Type 0
OneBatch =
    (F : ℕ) → 0 < F → (ws : List ℕ) (top : ℕ) (calls out : List ℕ) (r q : Outcome)
    → BatchPromise F ws top calls out r → BatchPromise F ws top calls out q → r ≡ q

-- the bytes that the program writes
abbrev pub OneProgram : Type 0
OneProgram = (F : ℕ) (input x y : List ℕ) → ProgramTable F input x → ProgramTable F input y → x ≡ y

-- a register printed, with every byte of the text space
abbrev pub OnePrint : Type 0
OnePrint =
    (F : ℕ) (ws : List ℕ) (top i n : ℕ) (r q : Printed) → PrintTable F ws top i n r → PrintTable F ws top i n q → r ≡ q

-- a text typed into a register, with every word of the store
abbrev pub OneType : Type 0
OneType =
    (F : ℕ) (ws : List ℕ) (top d : ℕ) (bs : List ℕ) (r q : Done) → TypeTable F ws top d bs r → TypeTable F ws top d bs q
    → r ≡ q

-- a file loaded, with every word of the slice
abbrev pub OneLoad : Type 0
OneLoad = (bs ws : List ℕ) (r q : Done) → LoadTable bs ws r → LoadTable bs ws q → r ≡ q

-- a store saved, with every word of the store and every byte of the space, which are bytes
abbrev pub OneSave : Type 0
OneSave =
    (e F : ℕ) → 0 < F → (ws : List ℕ) (top n : ℕ) (r q : Saved)
    → ((i : ℕ) → get_or r.space i 0 < 256) → ((i : ℕ) → get_or q.space i 0 < 256)
    → SaveTable e F ws top n r → SaveTable e F ws top n q → r ≡ q
