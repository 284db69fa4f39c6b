-- What the matches of a parse say of the words.
use Rattle.std.proofs.Common.{◌≡◌, ◌∙◌, ◌⊎◌, Bool, true, false, List, [], ◌∷◌, Option, Some, None, Result, Ok, Err, IfErr, inl, inr, refl, sym, ap, subst, map, codes}
use Rattle.std.specs.Prelude.{option_map, option_and_then, slice_get, bytes_eq, find, is_some}
use Rattle.std.specs.Borrow.{Bor}
use Rattle.std.proofs.lemmas.Bool.{true≢false}
use Rattle.std.proofs.lemmas.Slice.Eq.{bytes_eq-Decides}
use Rattle.clap.specs.Facts.{Entry}
use Rattle.clap.specs.Matches.{first_value}
use Rattle.clap.specs.Walk.{first_of, row_of, rows_of, texts}
use Rattle.clap.specs.Words.{App, HasKind, HasMatchesOf, IsAmong, Row, Text, fault_of, is_simple, is_simple_and_free, kind_of, subcommand_name_of, subcommand_of, subcommand_rows_of}
use Rattle.clap.specs.declared.error.Error.{Error}
use Rattle.clap.specs.declared.error.kind.ErrorKind.{ErrorKind}
use Rattle.clap.specs.declared.error.kind.ErrorKind.TheVariants.{DisplayHelp, DisplayVersion, OutOfMemory}
use Rattle.std.specs.declared.alloc.Global.{Global}
use Rattle.std.specs.declared.io.Error.{Error as IoError}
use Rattle.std.specs.Prelude.{String, Vec}
use Rattle.bepd_run.specs.declared.asking.AskWords.{AskWords}
use Rattle.bepd.specs.declared.command.Request.{Request}
use Rattle.bepd.specs.declared.command.Request.TheVariants as request
use Rattle.clap.specs.declared.parser.matches.ArgMatches.{ArgMatches}
use Rattle.std.specs.Result.{IsErrAnd}
use Rattle.clap.specs.declared.parser.matches.Found.{Found}
use Rattle.clap.proofs.OnLiterals.{clap_on_literals}
use Rattle.bepd.specs.CommandLine.{IsAsked, IsAskedBy, IsCommandLine, IsErrorAt, IsGiven, IsPairGiven, IsQuiet, IsRequested, IsRunGiven, IsStatusBy, begins_with_hyphen, bepd_app, config_at, directory_at, faults, folder_at, is_pair, value_at}

pub bepd_is_simple : is_simple_and_free bepd_app ≡ true
unfolding clap_on_literals
bepd_is_simple = refl

-- ---- the value of an argument

some_none : {A : Type 0} (x : A) → Some x ≡ None → ⊥
some_none x e = true≢false (ap is_some e)

first_text : (vs : List (Bor Text)) → slice_get (texts vs) 0 ≡ option_map (λ s. s.now) (slice_get vs 0)
first_text [] = refl
first_text (v ∷ vs) = refl

-- the first value, read from the entries and from their rows
first_read : (id : Text) (es : List Entry)
    → option_and_then (λ r. slice_get r.values 0) (find (λ r. bytes_eq r.id id) (map row_of es))
    ≡ option_and_then (λ a. option_map (λ s. s.now) (slice_get a.vals.items 0)) (option_map (λ e. e.1) (find (λ e. bytes_eq e.0.now id) es))
first_read id [] = refl
first_read id (e ∷ es) = go (bytes_eq e.0.now id) refl (first_read id es)
  where
    go : (b : Bool) → bytes_eq e.0.now id ≡ b
        → option_and_then (λ r. slice_get r.values 0) (find (λ r. bytes_eq r.id id) (map row_of es))
        ≡ option_and_then (λ a. option_map (λ s. s.now) (slice_get a.vals.items 0)) (option_map (λ e. e.1) (find (λ e. bytes_eq e.0.now id) es))
        → option_and_then (λ r. slice_get r.values 0) (find (λ r. bytes_eq r.id id) (map row_of (e ∷ es)))
        ≡ option_and_then (λ a. option_map (λ s. s.now) (slice_get a.vals.items 0)) (option_map (λ e. e.1) (find (λ e. bytes_eq e.0.now id) (e ∷ es)))
    go true h more = rw h (first_text e.1.vals.items)
    go false h more = rw h more

pub first_of-rows : (f : Found) (id : Text) → first_of id (rows_of f) ≡ first_value f id
first_of-rows f id = first_read id f.entries.items

-- ---- the value of an argument of one command

-- where another command or none was entered, it has no value
pub no_value : (name argument : Text) (c : Option (Text × List Row)) → (option_map (λ p. p.0) c ≡ Some name → ⊥) → value_at name argument c ≡ None
no_value name argument None other = refl
no_value name argument (Some c) other = go (bytes_eq c.0 name) refl
  where
    go : (b : Bool) → bytes_eq c.0 name ≡ b → value_at name argument (Some c) ≡ None
    go true h = absurd (other (ap Some ((bytes_eq-Decides c.0 name).0 h)))
    go false h = rw h refl

some_is : {A : Type 0} (x y : A) → Some x ≡ Some y → x ≡ y
some_is x y e = cc

pub given_value : (name argument : Text) (c : Option (Text × List Row)) (rows : List Row) → option_map (λ p. p.0) c ≡ Some name → option_map (λ p. p.1) c ≡ Some rows
    → value_at name argument c ≡ first_of argument rows
given_value name argument None rows named e = absurd (some_none rows (sym e))
given_value name argument (Some c) rows named e = go (bytes_eq c.0 name) refl
  where
    go : (b : Bool) → bytes_eq c.0 name ≡ b → value_at name argument (Some c) ≡ first_of argument rows
    go true h = rw h (ap (λ o. option_and_then (λ r. first_of argument r) o) e)
    go false h = absurd (true≢false (sym ((bytes_eq-Decides c.0 name).1 (some_is c.0 name named)) ∙ h))

-- a value was given to this command
entered : (name argument : Text) (c : Option (Text × List Row)) (value : Text) → value_at name argument c ≡ Some value → option_map (λ p. p.0) c ≡ Some name
entered name argument None value given = absurd (some_none value (sym given))
entered name argument (Some c) value given = go (bytes_eq c.0 name) refl
  where
    go : (b : Bool) → bytes_eq c.0 name ≡ b → Some c.0 ≡ Some name
    go true h = ap Some ((bytes_eq-Decides c.0 name).0 h)
    go false h =
        let none : value_at name argument (Some c) ≡ None = rw h refl in
        absurd (some_none value (sym given ∙ none))

map_map : {A B C : Type 0} (f : B → C) (g : A → B) (o : Option A) → option_map f (option_map g o) ≡ option_map (λ x. f (g x)) o
map_map f g None = refl
map_map f g (Some x) = refl

pub name_of_rows : (m : ArgMatches) → option_map (λ p. p.0) (subcommand_rows_of m) ≡ subcommand_name_of m
name_of_rows m = map_map (λ p. p.0) _ _

-- ---- two peers

-- the command entered is `pair`
pub pair_entered : (b : Bool) (c : Option (Text × List Row)) → (b ≡ true → option_map (λ p. p.0) c ≡ Some (codes "pair")) → (option_map (λ p. p.0) c ≡ Some (codes "pair") → b ≡ true) → b ≡ is_pair c
pair_entered true None to from = absurd (some_none (codes "pair") (sym (to refl)))
pair_entered false None to from = refl
pair_entered true (Some c) to from = sym ((bytes_eq-Decides c.0 (codes "pair")).1 (some_is c.0 (codes "pair") (to refl)))
pair_entered false (Some c) to from = go (bytes_eq c.0 (codes "pair")) refl
  where
    go : (b : Bool) → bytes_eq c.0 (codes "pair") ≡ b → false ≡ is_pair (Some c)
    go true h = absurd (true≢false (sym (from (ap Some ((bytes_eq-Decides c.0 (codes "pair")).0 h)))))
    go false h = sym h

-- ---- the words

bepd_is_plain : is_simple bepd_app ≡ true
unfolding clap_on_literals
bepd_is_plain = refl

pub error_at : (app : App) (words : List Text) (e : Error) → app ≡ bepd_app → (is_simple_and_free app ≡ true → HasKind (fault_of app words) e) → IsErrorAt words (kind_of e)
error_at app words e same fails = elim (fails (ap is_simple_and_free same ∙ bepd_is_simple)) [
  | inl out ↦ inl out
  | inr among ↦ inr (inl (subst (λ a. IsAmong (kind_of e) (fault_of a words)) same among))
]

-- what a parse that succeeds found is what the words say
pub read_at : {A : Type 0} (read : Option (Text × List Row) → A) (app : App) (words : List Text) (m : ArgMatches) (x : A) → app ≡ bepd_app → HasMatchesOf app words m
    → x ≡ read (subcommand_rows_of m) → read (subcommand_of bepd_app words) ≡ x
read_at read app words m x same found given =
    let rows : subcommand_rows_of m ≡ subcommand_of app words = (found (ap is_simple same ∙ bepd_is_plain)).1 in
    ap (λ a. read (subcommand_of a words)) (sym same) ∙ ap read (sym rows) ∙ sym given

pub no_faults : (app : App) (words : List Text) → app ≡ bepd_app → (is_simple_and_free app ≡ true → fault_of app words ≡ []) → faults words ≡ []
no_faults app words same none = ap (λ a. fault_of a words) (sym same) ∙ none (ap is_simple_and_free same ∙ bepd_is_simple)

-- what holds of an error that is passed on
pub at_error : {A E : Type 0} (P : E → Type 0) (r : Result A E) (e : E) → IsErrAnd r (λ x. x ≡ e) → P e → IfErr r P
at_error P (Ok x) e is p = tt
at_error P (Err f) e is p = subst P (sym is) p

-- ---- `PROGRAM best FOLDER`

pub plain_line : (program folder : Text) → begins_with_hyphen folder ≡ false → IsGiven (program ∷ codes "best" ∷ folder ∷ []) folder
unfolding clap_on_literals
plain_line program [] h = (refl, refl)
plain_line program (b ∷ bs) h = (simp h refl, simp h refl)

-- the request is the listing of this folder, or memory ran out
abbrev pub IsBestOf : Text → Request → Type 0
IsBestOf folder (request.Best f) = f.now ≡ folder
IsBestOf folder request.OutOfMemory = Unit {0}
IsBestOf folder _ = ⊥

is_some_of : {A : Type 0} (o : Option A) (x y : A) → o ≡ Some x → o ≡ Some y → x ≡ y
is_some_of o x y p q = some_is x y (sym p ∙ q)

help_not : DisplayHelp ≡ OutOfMemory → ⊥
help_not e = cc

version_not : DisplayVersion ≡ OutOfMemory → ⊥
version_not e = cc

-- such words are no mistake, so nothing but out of memory is wrong with them
no_mistake : (words : List Text) (folder : Text) (kind : ErrorKind) → IsGiven words folder → IsErrorAt words kind → (kind ≡ OutOfMemory → ⊥) → ⊥
no_mistake words folder kind given (inl out) not = not out
no_mistake words folder kind given (inr (inl among)) not = subst (IsAmong kind) given.0 among
no_mistake words folder kind given (inr (inr none)) not = some_none folder (sym given.1 ∙ none.0)

-- the command entered is `pair`
pair_named : (c : Option (Text × List Row)) → is_pair c ≡ true → option_map (λ p. p.0) c ≡ Some (codes "pair")
pair_named None p = absurd (true≢false (sym p))
pair_named (Some c) p = ap Some ((bytes_eq-Decides c.0 (codes "pair")).0 p)

-- the words cannot call for two commands
one_name : (a b : Text) (name : Option Text) → bytes_eq a b ≡ false → name ≡ Some a → name ≡ Some b → ⊥
one_name a b name other is_a is_b = true≢false (sym ((bytes_eq-Decides a b).1 (some_is a b (sym is_a ∙ is_b))) ∙ other)

pair_not_best : (c : Option (Text × List Row)) (folder : Text) → folder_at c ≡ Some folder → is_pair c ≡ true → ⊥
pair_not_best c folder f p =
    one_name (codes "pair") (codes "best") (option_map (λ p. p.0) c) refl (pair_named c p) (entered (codes "best") (codes "FOLDER") c folder f)

run_not_best : (c : Option (Text × List Row)) (folder path : Text) → folder_at c ≡ Some folder → config_at c ≡ Some path → ⊥
run_not_best c folder path f p =
    one_name (codes "run") (codes "best") (option_map (λ p. p.0) c) refl (entered (codes "run") (codes "config") c path p) (entered (codes "best") (codes "FOLDER") c folder f)

new_not_best : (c : Option (Text × List Row)) (folder directory : Text) → folder_at c ≡ Some folder → directory_at c ≡ Some directory → ⊥
new_not_best c folder directory f d =
    one_name (codes "new") (codes "best") (option_map (λ p. p.0) c) refl (entered (codes "new") (codes "DIRECTORY") c directory d) (entered (codes "best") (codes "FOLDER") c folder f)

new_not_pair : (c : Option (Text × List Row)) (directory : Text) → directory_at c ≡ Some directory → is_pair c ≡ true → ⊥
new_not_pair c directory d p =
    one_name (codes "pair") (codes "new") (option_map (λ p. p.0) c) refl (pair_named c p) (entered (codes "new") (codes "DIRECTORY") c directory d)

new_not_run : (c : Option (Text × List Row)) (path directory : Text) → config_at c ≡ Some path → directory_at c ≡ Some directory → ⊥
new_not_run c path directory f d =
    one_name (codes "new") (codes "run") (option_map (λ p. p.0) c) refl (entered (codes "new") (codes "DIRECTORY") c directory d) (entered (codes "run") (codes "config") c path f)

-- a command is asked of a run: it is `ask`, or `status`
abbrev IsAskOf : Option (Text × List Row) → AskWords → Type 0
IsAskOf c ask = IsAskedBy c ask ⊎ IsStatusBy c ask

-- and no other one
not_ask : (c : Option (Text × List Row)) (ask : AskWords) (other : Text) → bytes_eq (codes "ask") other ≡ false → bytes_eq (codes "status") other ≡ false → option_map (λ p. p.0) c ≡ Some other → IsAskOf c ask → ⊥
not_ask c ask other ne ne' named (inl h) = one_name (codes "ask") other (option_map (λ p. p.0) c) ne (entered (codes "ask") (codes "config") c ask.config.now h.0) named
not_ask c ask other ne ne' named (inr h) = one_name (codes "status") other (option_map (λ p. p.0) c) ne' (entered (codes "status") (codes "config") c ask.config.now h.0) named

ask_not_best : (c : Option (Text × List Row)) (folder : Text) (ask : AskWords) → folder_at c ≡ Some folder → IsAskOf c ask → ⊥
ask_not_best c folder ask f h = not_ask c ask (codes "best") refl refl (entered (codes "best") (codes "FOLDER") c folder f) h

ask_not_pair : (c : Option (Text × List Row)) (ask : AskWords) → IsAskOf c ask → is_pair c ≡ true → ⊥
ask_not_pair c ask h p = not_ask c ask (codes "pair") refl refl (pair_named c p) h

ask_not_run : (c : Option (Text × List Row)) (path : Text) (ask : AskWords) → config_at c ≡ Some path → IsAskOf c ask → ⊥
ask_not_run c path ask f h = not_ask c ask (codes "run") refl refl (entered (codes "run") (codes "config") c path f) h

run_not_pair : (c : Option (Text × List Row)) (path : Text) → config_at c ≡ Some path → is_pair c ≡ true → ⊥
run_not_pair c path f p =
    one_name (codes "pair") (codes "run") (option_map (λ p. p.0) c) refl (pair_named c p) (entered (codes "run") (codes "config") c path f)

asked_at : (words : List Text) (folder : Text) (asked : Request) → IsGiven words folder → IsAsked words asked → IsBestOf folder asked
asked_at words folder (request.Best f) given h = is_some_of (folder_at (subcommand_of bepd_app words)) f.now folder h.1 given.1
asked_at words folder request.Pair given h = pair_not_best (subcommand_of bepd_app words) folder given.1 h.1
asked_at words folder (request.Run run) given h = run_not_best (subcommand_of bepd_app words) folder run.path.now given.1 h.0.1
asked_at words folder (request.QuietRun run) given h = run_not_best (subcommand_of bepd_app words) folder run.path.now given.1 h.0.1
asked_at words folder (request.Ask ask) given h = ask_not_best (subcommand_of bepd_app words) folder ask given.1 h.1
asked_at words folder (request.Check path) given h = run_not_best (subcommand_of bepd_app words) folder path.now given.1 h.1
asked_at words folder (request.New new) given h = new_not_best (subcommand_of bepd_app words) folder new.directory.now given.1 h.1
asked_at words folder (request.Text t) given h = no_mistake words folder h.0 given h.1 (λ out. elim h.2 [
  | inl help ↦ help_not (sym help ∙ out)
  | inr version ↦ version_not (sym version ∙ out)
])
asked_at words folder (request.Refused t) given h = no_mistake words folder h.0 given h.1 h.2.2
asked_at words folder request.OutOfMemory given h = tt

-- the request of the words `PROGRAM best FOLDER`
pub asked_best : (words : Result (Vec (String Global) Global) IoError) (asked : Request) (program folder : Text) → IsCommandLine words (program ∷ codes "best" ∷ folder ∷ [])
    → begins_with_hyphen folder ≡ false → IsRequested words asked → IsBestOf folder asked
asked_best (Ok words) asked program folder line plain h =
    asked_at (program ∷ codes "best" ∷ folder ∷ []) folder asked (plain_line program folder plain) (subst (λ l. IsAsked l asked) line h)
asked_best (Err e) asked program folder line plain h = absurd line

-- ---- `PROGRAM pair`

pair_line : (program : Text) → IsPairGiven (program ∷ codes "pair" ∷ [])
unfolding clap_on_literals
pair_line program = (refl, refl)

-- the request is for two peers, or memory ran out
abbrev pub IsPairRequest : Request → Type 0
IsPairRequest request.Pair = Unit {0}
IsPairRequest request.OutOfMemory = Unit {0}
IsPairRequest _ = ⊥

no_pair_mistake : (words : List Text) (kind : ErrorKind) → IsPairGiven words → IsErrorAt words kind → (kind ≡ OutOfMemory → ⊥) → ⊥
no_pair_mistake words kind given (inl out) not = not out
no_pair_mistake words kind given (inr (inl among)) not = subst (IsAmong kind) given.0 among
no_pair_mistake words kind given (inr (inr none)) not = true≢false (sym given.1 ∙ none.1)

pair_asked_at : (words : List Text) (asked : Request) → IsPairGiven words → IsAsked words asked → IsPairRequest asked
pair_asked_at words (request.Best f) given h = pair_not_best (subcommand_of bepd_app words) f.now h.1 given.1
pair_asked_at words request.Pair given h = tt
pair_asked_at words (request.Run run) given h = run_not_pair (subcommand_of bepd_app words) run.path.now h.0.1 given.1
pair_asked_at words (request.QuietRun run) given h = run_not_pair (subcommand_of bepd_app words) run.path.now h.0.1 given.1
pair_asked_at words (request.Ask ask) given h = ask_not_pair (subcommand_of bepd_app words) ask h.1 given.1
pair_asked_at words (request.Check path) given h = run_not_pair (subcommand_of bepd_app words) path.now h.1 given.1
pair_asked_at words (request.New new) given h = new_not_pair (subcommand_of bepd_app words) new.directory.now h.1 given.1
pair_asked_at words (request.Text t) given h = no_pair_mistake words h.0 given h.1 (λ out. elim h.2 [
  | inl help ↦ help_not (sym help ∙ out)
  | inr version ↦ version_not (sym version ∙ out)
])
pair_asked_at words (request.Refused t) given h = no_pair_mistake words h.0 given h.1 h.2.2
pair_asked_at words request.OutOfMemory given h = tt

-- the request of the words `PROGRAM pair`
pub asked_pair : (words : Result (Vec (String Global) Global) IoError) (asked : Request) (program : Text) → IsCommandLine words (program ∷ codes "pair" ∷ []) → IsRequested words asked → IsPairRequest asked
asked_pair (Ok words) asked program line h = pair_asked_at (program ∷ codes "pair" ∷ []) asked (pair_line program) (subst (λ l. IsAsked l asked) line h)
asked_pair (Err e) asked program line h = absurd line

-- ---- `PROGRAM run --config FILE`

-- the words call for a node by this configuration that tells what happens
abbrev IsTold : List Text → Text → Type 0
IsTold words path = IsRunGiven words path false × IsQuiet words false

run_line : (program path : Text) → begins_with_hyphen path ≡ false → IsTold (program ∷ codes "run" ∷ codes "--config" ∷ path ∷ []) path
unfolding clap_on_literals
run_line program [] h = ((refl, refl, refl), refl)
run_line program (b ∷ bs) h = ((simp h refl, simp h refl, simp h refl), simp h refl)

-- the request is for a node by this configuration, or memory ran out
abbrev pub IsRunOf : Text → Request → Type 0
IsRunOf path (request.Run run) = run.path.now ≡ path
IsRunOf path request.OutOfMemory = Unit {0}
IsRunOf path _ = ⊥

no_run_mistake : (words : List Text) (path : Text) (kind : ErrorKind) → IsTold words path → IsErrorAt words kind → (kind ≡ OutOfMemory → ⊥) → ⊥
no_run_mistake words path kind given (inl out) not = not out
no_run_mistake words path kind given (inr (inl among)) not = subst (IsAmong kind) given.0.0 among
no_run_mistake words path kind given (inr (inr none)) not = some_none path (sym given.0.1 ∙ none.2)

run_asked_at : (words : List Text) (path : Text) (asked : Request) → IsTold words path → IsAsked words asked → IsRunOf path asked
run_asked_at words path (request.Best f) given h = run_not_best (subcommand_of bepd_app words) f.now path h.1 given.0.1
run_asked_at words path request.Pair given h = run_not_pair (subcommand_of bepd_app words) path given.0.1 h.1
run_asked_at words path (request.Run run) given h = is_some_of (config_at (subcommand_of bepd_app words)) run.path.now path h.0.1 given.0.1
run_asked_at words path (request.QuietRun run) given h = true≢false (sym h.1 ∙ given.1)
run_asked_at words path (request.Ask ask) given h = ask_not_run (subcommand_of bepd_app words) path ask given.0.1 h.1
run_asked_at words path (request.Check p) given h = true≢false (sym h.2 ∙ given.0.2)
run_asked_at words path (request.New new) given h = new_not_run (subcommand_of bepd_app words) path new.directory.now given.0.1 h.1
run_asked_at words path (request.Text t) given h = no_run_mistake words path h.0 given h.1 (λ out. elim h.2 [
  | inl help ↦ help_not (sym help ∙ out)
  | inr version ↦ version_not (sym version ∙ out)
])
run_asked_at words path (request.Refused t) given h = no_run_mistake words path h.0 given h.1 h.2.2
run_asked_at words path request.OutOfMemory given h = tt

-- the request of the words `PROGRAM run --config FILE`
pub asked_run : (words : Result (Vec (String Global) Global) IoError) (asked : Request) (program path : Text)
    → IsCommandLine words (program ∷ codes "run" ∷ codes "--config" ∷ path ∷ []) → begins_with_hyphen path ≡ false → IsRequested words asked → IsRunOf path asked
asked_run (Ok words) asked program path line plain h =
    run_asked_at (program ∷ codes "run" ∷ codes "--config" ∷ path ∷ []) path asked (run_line program path plain) (subst (λ l. IsAsked l asked) line h)
asked_run (Err e) asked program path line plain h = absurd line
