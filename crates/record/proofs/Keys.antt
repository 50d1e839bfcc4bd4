-- The rules that the table of contents has: the last arm of a match on the rule of an ID is an ID that it doesn't have.
use mathlib.Core.Path.{◌≡◌, refl, ◌∙◌}
use mathlib.Core.Logic.{⊎_elim}
use mathlib.Core.Bool.{Bool, true, false, false≢true}
use mathlib.Core.List.{List, [], ◌∷◌, map}
use Prim.Native.Nat.{ℕ}
use types.Run.{OneOf}
use denote.Enum.Declared.{tag_of}
use Rattle.cells.proofs.Bools.{split}
use Rattle.rules.specs.declared.rule.Rule.{Rule}
use Rattle.rules.specs.declared.rule.Rule.TheVariants.{Free, Of, Padded, Named, OneOf as Texted, DayCount, Date, ExpectedDate, Article}
use Rattle.rules.specs.contracts.rule.Rule.{the_type}
use Rattle.record.specs.Contents.{Listed, contents, is_in, rule_in, content_rule}

-- a function of the ID that has one value at each of an arm's keys has it in the arm
pub in_arm : {A : Type 0} (f : ℕ → A) (v : A) (ks : List ℕ) (x : ℕ) → map f ks ≡ map (λ (k : ℕ). v) ks → OneOf ks x → v ≡ f x
in_arm f v [] x e h = absurd h
in_arm f v (k ∷ []) x e h = cc
in_arm f v (k ∷ l ∷ ks) x e h = ⊎_elim (λ q. cc) (λ q. in_arm f v (l ∷ ks) x (cc) q) h

-- the rules that the table of contents has, and that of an ID it doesn't have
abbrev listed : Rule → Bool
listed Free = true
listed (Of c least most) = true
listed (Padded c least most) = false
listed (Named c) = false
listed (Texted t) = true
listed DayCount = true
listed Date = true
listed ExpectedDate = false
listed Article = false

-- where each row has one of them, an ID has one
listed_in : (rows : List Listed) (x : ℕ) → map (λ (row : Listed). listed row.rule) rows ≡ map (λ (row : Listed). true) rows → listed (rule_in x rows) ≡ true
unfolding rule_in
listed_in [] x e = refl
listed_in (row ∷ rows) x e = split (is_in x row.ids) (λ q. rw q (cc)) (λ q. rw q (listed_in rows x (cc)))

-- the tags of the rules that have no arm of their own where the rule of an ID is matched
abbrev pub rest_tags : List ℕ
rest_tags = 0 ∷ 2 ∷ 3 ∷ 7 ∷ 8 ∷ []

-- no other tag is one of them
not_rest : (t : ℕ) → is_in t (1 ∷ 4 ∷ 5 ∷ 6 ∷ []) ≡ true → OneOf rest_tags t → ⊥
unfolding is_in
not_rest t e h = false≢true (in_arm (λ (n : ℕ). is_in n (1 ∷ 4 ∷ 5 ∷ 6 ∷ [])) false rest_tags t refl h ∙ e)

-- of the rules that the table has only that of an ID it doesn't have is left to the last arm
rest_listed : (r : Rule) → listed r ≡ true → OneOf rest_tags (tag_of the_type r) → r ≡ Free
unfolding is_in
rest_listed Free l h = refl
rest_listed (Of c least most) l h = absurd (not_rest 1 refl h)
rest_listed (Padded c least most) l h = absurd (false≢true l)
rest_listed (Named c) l h = absurd (false≢true l)
rest_listed (Texted t) l h = absurd (not_rest 4 refl h)
rest_listed DayCount l h = absurd (not_rest 5 refl h)
rest_listed Date l h = absurd (not_rest 6 refl h)
rest_listed ExpectedDate l h = absurd (false≢true l)
rest_listed Article l h = absurd (false≢true l)

-- so the rule of an ID is free in the last arm
pub rest_free : (x : ℕ) (r : Rule) → r ≡ content_rule x → OneOf rest_tags (tag_of the_type r) → r ≡ Free
unfolding contents content_rule
rest_free x r e h =
    let l : listed r ≡ true = rw e (listed_in contents x refl) in
    rest_listed r l h
