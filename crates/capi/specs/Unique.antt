-- The claims that a statement of this crate leaves no second outcome (SCOPE 8.5): the reply, and
-- every word and byte of the slices lent. Proved in proofs/Final.antt. What a text in pieces gives is handed on as it
-- is, by the same promises: its claims are those of crate `pieces`.
-- Assumes nothing.
use Rattle.std.specs.Prelude.{◌≡◌, List, ℕ}
use Rattle.store.specs.declared.Span as span
use Rattle.capi.specs.Answers.{Checks, Makes, Collects, Runs, Places, Prints, Types, Saves, Loads}
use Rattle.capi.specs.declared.Entry.{Entry}
use Rattle.capi.specs.declared.Filed.{Filed}
use Rattle.capi.specs.declared.Reply.{Reply}
use Rattle.capi.specs.declared.Text.{Text}

abbrev pub OneCheck : Type 0
OneCheck = (ws : List ℕ) (top : ℕ) (r r' : Reply) → Checks ws top r → Checks ws top r' → r ≡ r'

abbrev pub OneFresh : Type 0
OneFresh = (ws vs vs' : List ℕ) (r r' : Reply) → Makes ws r vs → Makes ws r' vs' → (r ≡ r') × (vs ≡ vs')

abbrev pub OneCollect : Type 0
OneCollect =
    (ws : List ℕ) (top : ℕ) (vs vs' : List ℕ) (r r' : Reply) → Collects ws top r vs → Collects ws top r' vs'
    → (r ≡ r') × (vs ≡ vs')

abbrev pub OneRun : Type 0
OneRun =
    (ws : List ℕ) (top : ℕ) (calls out vs vs' os os' : List ℕ) (r r' : Reply)
    → Runs ws top calls out r vs os → Runs ws top calls out r' vs' os' → (r ≡ r') × (vs ≡ vs') × (os ≡ os')

abbrev pub OneLook : Type 0
OneLook = (ws : List ℕ) (top i : ℕ) (r r' : span.Span) → Places ws top i r → Places ws top i r' → r ≡ r'

abbrev pub OnePrint : Type 0
OnePrint =
    (ws : List ℕ) (top i : ℕ) (out vs vs' : List ℕ) (r r' : Text)
    → Prints ws top i out r vs → Prints ws top i out r' vs' → (r ≡ r') × (vs ≡ vs')

abbrev pub OneType : Type 0
OneType =
    (ws : List ℕ) (top d : ℕ) (bs vs vs' : List ℕ) (r r' : Entry)
    → Types ws top d bs r vs → Types ws top d bs r' vs' → (r ≡ r') × (vs ≡ vs')

abbrev pub OneSave : Type 0
OneSave =
    (ws : List ℕ) (top : ℕ) (out vs vs' ss ss' : List ℕ) (r r' : Filed)
    → Saves ws top out r vs ss → Saves ws top out r' vs' ss' → (r ≡ r') × (vs ≡ vs') × (ss ≡ ss')

abbrev pub OneLoad : Type 0
OneLoad = (bs ws vs vs' : List ℕ) (r r' : Reply) → Loads bs ws r vs → Loads bs ws r' vs' → (r ≡ r') × (vs ≡ vs')
