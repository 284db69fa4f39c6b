-- Which lines are no command.
use Rattle.std.proofs.Common.{◌≡◌, ℕ, zero, suc, ◌<◌, ◌≤◌, Bool, true, false, [], ◌∷◌, ◌++◌, length, drop, refl, sym, ap, ap₂, ◌∙◌, subst, get_or, arith, codes, Option, Some, None, MatchOption, Bor}
use Rattle.std.proofs.lemmas.Bool.{true≢false}
use Rattle.std.specs.Prelude.{bytes_eq, not, is_some, ◌==◌, ◌&&◌, ◌||◌}
use Rattle.sync_version.specs.declared.moment.TheConstants.Moment.{MAX_SECONDS}
use Rattle.bepd_pair.specs.declared.command.Side.{Side}
use Rattle.bepd_pair.specs.declared.command.Side.TheVariants.{A, B}
use Rattle.bepd_pair.specs.declared.command.Command.{Command}
use Rattle.bepd_pair.specs.declared.command.Command.TheVariants.{Time, Sync, At}
use Rattle.bepd_pair.specs.declared.command.Action.{Action}
use Rattle.bepd_pair.specs.declared.command.Action.TheVariants.{Put, MakeDir, Delete, Conflicts, Scan, Pull, Show}
use Rattle.bepd_pair.specs.Words.{IsDecimal, IsLimit, IsWord, Text, spaced}
use Rattle.bepd_pair.specs.Commands.{IsArgument, IsPlain, IsRest, IsTextOf, letter_of, word_of}

-- ---- words and spaces

get_after : (xs ys : Text) → get_or (xs ++ 32 ∷ ys) (length xs) 0 ≡ 32
get_after [] ys = refl
get_after (x ∷ xs) ys = get_after xs ys

inside : (xs ys : Text) → length xs < length (xs ++ 32 ∷ ys)
inside [] ys = omega arith
inside (x ∷ xs) ys = omega (arith, inside xs ys)

-- a text with a space is no word
pub no_word : (text xs ys : Text) → IsWord text → text ≡ spaced xs ys → ⊥
no_word text xs ys word e =
    let word' : IsWord (spaced xs ys) = subst IsWord e word in
    word' (length xs) (inside xs ys) (get_after xs ys)

-- two texts of which a test tells that they differ
differ : (xs ys zs : Text) → bytes_eq xs ys ≡ false → zs ≡ xs → zs ≡ ys → bytes_eq xs xs ≡ true → ⊥
differ xs ys zs h e f t = true≢false (sym t ∙ ap (bytes_eq xs) (sym e ∙ f) ∙ h)

-- ---- what an argument is none of

pub no_put : (word argument : Text) → word ≡ codes "put" → IsWord argument → (action : Action) → word ≡ word_of action → IsArgument action argument → ⊥
no_put word argument e free (Put name text) w h = no_word argument name.now text.now free h.0
no_put word argument e free (MakeDir name) w h = differ (codes "put") (codes "mkdir") word refl e w refl
no_put word argument e free (Delete name) w h = differ (codes "put") (codes "del") word refl e w refl
no_put word argument e free (Conflicts most) w h = differ (codes "put") (codes "conflicts") word refl e w refl
no_put word argument e free Scan w h = h
no_put word argument e free Pull w h = h
no_put word argument e free Show w h = h

pub no_limit : (word argument : Text) → word ≡ codes "conflicts" → ((most : _) → IsLimit argument most → ⊥) → (action : Action) → word ≡ word_of action → IsArgument action argument → ⊥
no_limit word argument e none (Put name text) w h = differ (codes "conflicts") (codes "put") word refl e w refl
no_limit word argument e none (MakeDir name) w h = differ (codes "conflicts") (codes "mkdir") word refl e w refl
no_limit word argument e none (Delete name) w h = differ (codes "conflicts") (codes "del") word refl e w refl
no_limit word argument e none (Conflicts most) w h = none most h
no_limit word argument e none Scan w h = h
no_limit word argument e none Pull w h = h
no_limit word argument e none Show w h = h

pub no_name : (word argument xs ys : Text) → (word ≡ codes "put" → ⊥) → (word ≡ codes "conflicts" → ⊥) → argument ≡ spaced xs ys → (action : Action) → word ≡ word_of action → IsArgument action argument → ⊥
no_name word argument xs ys put conflicts e (Put name text) w h = put w
no_name word argument xs ys put conflicts e (MakeDir name) w h = no_word name.now xs ys h.1 (sym h.0 ∙ e)
no_name word argument xs ys put conflicts e (Delete name) w h = no_word name.now xs ys h.1 (sym h.0 ∙ e)
no_name word argument xs ys put conflicts e (Conflicts most) w h = conflicts w
no_name word argument xs ys put conflicts e Scan w h = h
no_name word argument xs ys put conflicts e Pull w h = h
no_name word argument xs ys put conflicts e Show w h = h

pub no_name_in : (word argument : Text) (r : Option (Bor Text × Bor Text)) → (word ≡ codes "put" → ⊥) → (word ≡ codes "conflicts" → ⊥) → is_some r ≡ true
    → MatchOption r (IsWord argument) (λ parts. (argument ≡ spaced parts.0.now parts.1.now) × IsWord parts.0.now) → (action : Action) → word ≡ word_of action → IsArgument action argument → ⊥
no_name_in word argument None put conflicts some h action w a = true≢false (sym some)
no_name_in word argument (Some parts) put conflicts some h action w a = no_name word argument parts.0.now parts.1.now put conflicts h.0 action w a

-- ---- a word before a space is one alone

pub same_words : (xs ys xs' ys' : Text) → IsWord xs → IsWord xs' → spaced xs ys ≡ spaced xs' ys' → (xs ≡ xs') × (ys ≡ ys')
same_words [] ys [] ys' a b e = (refl, ap (drop 1) e)
same_words [] ys (x ∷ xs') ys' a b e = absurd (b 0 (omega arith) (sym (ap (λ l. get_or l 0 0) e)))
same_words (x ∷ xs) ys [] ys' a b e = absurd (a 0 (omega arith) (ap (λ l. get_or l 0 0) e))
same_words (x ∷ xs) ys (x' ∷ xs') ys' a b e =
    let rest = same_words xs ys xs' ys' (λ i l. a (suc i) (omega (arith, l))) (λ i l. b (suc i) (omega (arith, l))) (ap (drop 1) e) in
    (ap₂ (λ y l. y ∷ l) (ap (λ l. get_or l 0 0) e) rest.0, rest.1)

is_word : Text → Bool
is_word [] = true
is_word (b ∷ bs) = not (b == 32) && is_word bs

and_first : (a b : Bool) → (a && b) ≡ true → a ≡ true
and_first true b h = refl
and_first false b h = h

and_second : (a b : Bool) → (a && b) ≡ true → b ≡ true
and_second true b h = h
and_second false b h = absurd (true≢false (sym h))

not_space : (b : ℕ) → not (b == 32) ≡ true → b ≡ 32 → ⊥
not_space b h e = true≢false (sym h ∙ ap (λ n. not (n == 32)) e)

word_is : (text : Text) → is_word text ≡ true → IsWord text
unfolding is_word
word_is [] h i l = absurd (omega (arith, l))
word_is (b ∷ bs) h zero l = not_space b (and_first (not (b == 32)) (is_word bs) h)
word_is (b ∷ bs) h (suc i) l = word_is bs (and_second (not (b == 32)) (is_word bs) h) i (omega (arith, l))

letter_word : (side : Side) → IsWord (letter_of side)
unfolding is_word
letter_word A = word_is (codes "A") refl
letter_word B = word_is (codes "B") refl

word_word : (action : Action) → IsWord (word_of action)
unfolding is_word
word_word (Put name text) = word_is (codes "put") refl
word_word (MakeDir name) = word_is (codes "mkdir") refl
word_word (Delete name) = word_is (codes "del") refl
word_word (Conflicts most) = word_is (codes "conflicts") refl
word_word Scan = word_is (codes "scan") refl
word_word Pull = word_is (codes "pull") refl
word_word Show = word_is (codes "show") refl

time_word : IsWord (codes "time")
unfolding is_word
time_word = word_is (codes "time") refl

sync_word : IsWord (codes "sync")
unfolding is_word
sync_word = word_is (codes "sync") refl

-- ---- what follows the word of an action

is_plain : Action → Bool
is_plain Scan = true
is_plain Pull = true
is_plain Show = true
is_plain _ = false

plain_by : (action : Action) → is_plain action ≡ true → IsPlain action
unfolding is_plain
plain_by (Put name text) h = true≢false (sym h)
plain_by (MakeDir name) h = true≢false (sym h)
plain_by (Delete name) h = true≢false (sym h)
plain_by (Conflicts most) h = true≢false (sym h)
plain_by Scan h = tt
plain_by Pull h = tt
plain_by Show h = tt

-- the third byte tells the words of plain actions from the others
plain_word : Text → Bool
plain_word word = bytes_eq word (codes "scan") || bytes_eq word (codes "pull") || bytes_eq word (codes "show")

plain_by_word : (action : Action) → plain_word (word_of action) ≡ is_plain action
unfolding is_plain plain_word
plain_by_word (Put name text) = refl
plain_by_word (MakeDir name) = refl
plain_by_word (Delete name) = refl
plain_by_word (Conflicts most) = refl
plain_by_word Scan = refl
plain_by_word Pull = refl
plain_by_word Show = refl

is_plain_of : (action : Action) → IsPlain action → is_plain action ≡ true
unfolding is_plain
is_plain_of (Put name text) h = absurd h
is_plain_of (MakeDir name) h = absurd h
is_plain_of (Delete name) h = absurd h
is_plain_of (Conflicts most) h = absurd h
is_plain_of Scan h = refl
is_plain_of Pull h = refl
is_plain_of Show h = refl

also_plain : (a b : Action) (word : Text) → IsPlain a → word ≡ word_of a → word ≡ word_of b → IsPlain b
also_plain a b word p e f = plain_by b (sym (plain_by_word b) ∙ ap plain_word (sym f ∙ e) ∙ plain_by_word a ∙ is_plain_of a p)

rest_plain : (side : Side) (action : Action) (rest : Text) → IsPlain action → IsRest side action rest → rest ≡ letter_of side
rest_plain side (Put name text) rest p h = absurd p
rest_plain side (MakeDir name) rest p h = absurd p
rest_plain side (Delete name) rest p h = absurd p
rest_plain side (Conflicts most) rest p h = absurd p
rest_plain side Scan rest p h = h
rest_plain side Pull rest p h = h
rest_plain side Show rest p h = h

rest_named : (side : Side) (action : Action) (rest : Text) → (IsPlain action → ⊥) → IsRest side action rest → (argument : Text) × (rest ≡ spaced (letter_of side) argument) × IsArgument action argument
rest_named side (Put name text) rest p h = h
rest_named side (MakeDir name) rest p h = h
rest_named side (Delete name) rest p h = h
rest_named side (Conflicts most) rest p h = h
rest_named side Scan rest p h = absurd (p tt)
rest_named side Pull rest p h = absurd (p tt)
rest_named side Show rest p h = absurd (p tt)

-- no peer does anything by this word and what follows
abbrev pub HasNoAction : Text → Text → Type 0
HasNoAction word rest = (side : Side) (action : Action) → word ≡ word_of action → IsRest side action rest → ⊥

abbrev pub HasNoPlain : Text → Type 0
HasNoPlain word = (action : Action) → IsPlain action → word ≡ word_of action → ⊥

pub no_side_plain : (word rest : Text) (a : Action) → IsPlain a → word ≡ word_of a → ((side : Side) → rest ≡ letter_of side → ⊥) → HasNoAction word rest
no_side_plain word rest a p e none side action w h = none side (rest_plain side action rest (also_plain a action word p e w) h)

pub no_argument : (word rest : Text) → HasNoPlain word → IsWord rest → HasNoAction word rest
no_argument word rest plain free side action w h =
    let named = rest_named side action rest (λ p. plain action p w) h in
    no_word rest (letter_of side) named.0 free named.1

pub no_side : (word rest letter argument : Text) → HasNoPlain word → rest ≡ spaced letter argument → IsWord letter → ((side : Side) → letter ≡ letter_of side → ⊥) → HasNoAction word rest
no_side word rest letter argument plain e free none side action w h =
    let named = rest_named side action rest (λ p. plain action p w) h in
    none side (same_words letter argument (letter_of side) named.0 free (letter_word side) (sym e ∙ named.1)).0

pub no_named : (word rest letter argument : Text) → HasNoPlain word → rest ≡ spaced letter argument → IsWord letter
    → ((action : Action) → word ≡ word_of action → IsArgument action argument → ⊥) → HasNoAction word rest
no_named word rest letter argument plain e free none side action w h =
    let named = rest_named side action rest (λ p. plain action p w) h in
    let same = same_words letter argument (letter_of side) named.0 free (letter_word side) (sym e ∙ named.1) in
    none action w (subst (IsArgument action) (sym same.1) named.2)

-- ---- what follows the first word

abbrev pub IsNoText : Text → Type 0
IsNoText line = (command : Command) → IsTextOf line command → ⊥

time_not : (word : Text) (action : Action) → word ≡ codes "time" → word ≡ word_of action → ⊥
time_not word (Put name text) e w = differ (codes "time") (codes "put") word refl e w refl
time_not word (MakeDir name) e w = differ (codes "time") (codes "mkdir") word refl e w refl
time_not word (Delete name) e w = differ (codes "time") (codes "del") word refl e w refl
time_not word (Conflicts most) e w = differ (codes "time") (codes "conflicts") word refl e w refl
time_not word Scan e w = differ (codes "time") (codes "scan") word refl e w refl
time_not word Pull e w = differ (codes "time") (codes "pull") word refl e w refl
time_not word Show e w = differ (codes "time") (codes "show") word refl e w refl

pub no_time : (word rest : Text) → IsWord word → word ≡ codes "time" → ((n : ℕ) → IsDecimal rest n → n ≤ MAX_SECONDS → ⊥) → IsNoText (spaced word rest)
no_time word rest free e none Sync h = no_word (codes "sync") word rest sync_word (sym h)
no_time word rest free e none (Time moment) h =
    let same = same_words word rest (codes "time") h.0 free time_word h.1 in
    none moment (subst (λ t. IsDecimal t moment) (sym same.1) h.2) h.3
no_time word rest free e none (At side action) h =
    time_not word action e (same_words word rest (word_of action) h.0 free (word_word action) h.1).0

pub no_action : (word rest : Text) → IsWord word → (word ≡ codes "time" → ⊥) → HasNoAction word rest → IsNoText (spaced word rest)
no_action word rest free not none Sync h = no_word (codes "sync") word rest sync_word (sym h)
no_action word rest free not none (Time moment) h = not (same_words word rest (codes "time") h.0 free time_word h.1).0
no_action word rest free not none (At side action) h =
    let same = same_words word rest (word_of action) h.0 free (word_word action) h.1 in
    none side action same.0 (subst (IsRest side action) (sym same.1) h.2)

-- a line of one word
pub no_sync : (line : Text) → IsWord line → (line ≡ codes "sync" → ⊥) → IsNoText line
no_sync line free not Sync h = not h
no_sync line free not (Time moment) h = no_word line (codes "time") h.0 free h.1
no_sync line free not (At side action) h = no_word line (word_of action) h.0 free h.1
