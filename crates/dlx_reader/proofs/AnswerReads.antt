-- A text gives one answer or one fault, and not both.
use Rattle.std.proofs.Common.{◌≡◌, ◌≢◌, ℕ, List, get_or, [], ◌∷◌, length, Ok, Err, Result, IfOk, IfErr, refl, sym, ◌∙◌, ap, inl, inr, codes, arith, length-append, subst}
use Rattle.std.specs.Result.{MatchResult, IsOkAnd}
use Rattle.std.specs.Str.Parse.{digits_value}
use Rattle.cover_problem.specs.Problem.{Problem}
use Rattle.cover_problem.specs.declared.answer.Answer.{Answer}
use Rattle.cover_problem.specs.declared.answer.Answer.TheVariants.{Cover, NoCover}
use Rattle.dlx_reader.specs.Answers.{IsHead, IsNoneHead, IsCoverHead, IsAnswerOf, IsFaultOf, IsReadOf, IsFirstUnknown, AreOptionsOf, worded_lines, head_words, further_lines}
use Rattle.dlx_reader.specs.Lines.{lines_of}
use Rattle.dlx_reader.specs.AnswerSteps.{IsHeadOf, IsHeadFault, lines_after}
use Rattle.dlx_reader.specs.declared.answer_head.Head.{Head}
use Rattle.dlx_reader.specs.declared.answer_head.Head.TheVariants as heads
use Rattle.dlx_reader.specs.declared.answer_fault.AnswerFault.{AnswerFault}
use Rattle.dlx_reader.specs.declared.answer_fault.AnswerFault.TheVariants.{BadHead, WrongCount, UnknownOption, Memory}
use Rattle.dlx_reader.proofs.AnswerOptions.{AreOptionsOf-same, unknown_has_none, unknown_same}

-- ---- heads

not_both : (words : List (List ℕ)) (n : ℕ) → IsNoneHead words → IsCoverHead words n → ⊥
not_both words n none cover = let clash : codes "none" ∷ [] ≡ codes "cover" ∷ cover.0 ∷ [] = sym none ∙ cover.1 in cc

cover_same : (words : List (List ℕ)) (m n : ℕ) → IsCoverHead words m → IsCoverHead words n → m ≡ n
cover_same words m n a b =
    let both : codes "cover" ∷ a.0 ∷ [] ≡ codes "cover" ∷ b.0 ∷ [] = sym a.1 ∙ b.1 in
    let digits : a.0 ≡ b.0 = cc in
    sym a.2.value ∙ ap (digits_value 10) digits ∙ b.2.value

-- a head says one number of lines
head_same : (words : List (List ℕ)) (m n : ℕ) → IsHead words m → IsHead words n → m ≡ n
head_same words m n (inl a) (inl b) = a.1 ∙ sym b.1
head_same words m n (inl a) (inr b) = absurd (not_both words n a.0 b)
head_same words m n (inr a) (inl b) = absurd (not_both words m b.0 a)
head_same words m n (inr a) (inr b) = cover_same words m n a b

-- the head of an answer's text says the number of its lines
head_of_answer : (text : List ℕ) (p : Problem) (a : Answer) → IsAnswerOf text p a → IsHead (head_words text) (length (further_lines text))
head_of_answer text p NoCover is = inl (is.0, ap length is.1)
head_of_answer text p (Cover options) is = inr is.0

-- the words of a head say how many lines follow it
pub head_says : (words : List (List ℕ)) (head : Head) → IsHeadOf words head → IsHead words (lines_after head)
head_says words heads.NoCover is = inl (is, refl)
head_says words (heads.Cover count) is = inr is

pub count_fault : (words : List (List ℕ)) (head : Head) (further : ℕ) → IsHeadOf words head → lines_after head ≢ further → IsHeadFault words further WrongCount
count_fault words head further is other = (lines_after head, head_says words head is, λ same. other (sym same))

-- ---- answers and faults

pub head_fault : (text : List ℕ) (p : Problem) (words : List (List ℕ)) (further : ℕ) (fault : AnswerFault) → head_words text ≡ words → length (further_lines text) ≡ further → IsHeadFault words further fault → IsFaultOf text p fault
head_fault text p words further BadHead is long none = λ count head. none count (subst (λ (ws : List (List ℕ)). IsHead ws count) is head)
head_fault text p words further WrongCount is long wrong = (wrong.0, subst (λ (ws : List (List ℕ)). IsHead ws wrong.0) (sym is) wrong.1, λ same. wrong.2 (sym long ∙ same))
head_fault text p words further (UnknownOption n) is long wrong = absurd wrong
head_fault text p words further Memory is long wrong = absurd wrong

no_head : (count : ℕ) → IsHead [] count → ⊥
no_head count (inl none) = let clash : [] ≡ codes "none" ∷ [] = none.0 in cc
no_head count (inr cover) = let clash : [] ≡ codes "cover" ∷ cover.0 ∷ [] = cover.1 in cc

pub no_lines : (text : List ℕ) → worded_lines 1 (lines_of text) ≡ [] → (count : ℕ) → IsHead (head_words text) count → ⊥
no_lines text none count head =
    let empty : head_words text ≡ [] = ap (λ (ls : List (ℕ × List (List ℕ))). (get_or ls 0 (0, [])).1) none in
    no_head count (subst (λ (ws : List (List ℕ)). IsHead ws count) empty head)

pub cover_answer : (text : List ℕ) (p : Problem) (words : List (List ℕ)) (further : List (ℕ × List (List ℕ))) (count : ℕ) (options : List ℕ) → head_words text ≡ words → further_lines text ≡ further → IsCoverHead words count → count ≡ length further → AreOptionsOf p further options → IsAnswerOf text p (Cover options)
cover_answer text p words further count options is are head long by = rw (is, are, ← long) (head, by)

-- the options that were read, seen as an answer
pub cover_read : (text : List ℕ) (p : Problem) (words : List (List ℕ)) (further : List (ℕ × List (List ℕ))) (count : ℕ) (r : Result (List ℕ) AnswerFault) (q : Result Answer AnswerFault) → head_words text ≡ words → further_lines text ≡ further → IsCoverHead words count → count ≡ length further → IfOk r (AreOptionsOf p further) → MatchResult r (λ options. IsOkAnd q (λ answer. answer ≡ Cover options)) (λ e. q ≡ Err e) → IfOk q (IsAnswerOf text p)
cover_read text p words further count (Ok options) (Ok answer) is are head long by same = rw same (cover_answer text p words further count options is are head long by)
cover_read text p words further count (Ok options) (Err e) is are head long by same = tt
cover_read text p words further count (Err e) q is are head long by same = rw same tt

answer_same : (text : List ℕ) (p : Problem) (a b : Answer) → IsAnswerOf text p a → IsAnswerOf text p b → a ≡ b
answer_same text p NoCover NoCover is as' = refl
answer_same text p NoCover (Cover ys) is as' = absurd (not_both (head_words text) (length (further_lines text)) is.0 as'.0)
answer_same text p (Cover xs) NoCover is as' = absurd (not_both (head_words text) (length (further_lines text)) as'.0 is.0)
answer_same text p (Cover xs) (Cover ys) is as' = ap Cover (AreOptionsOf-same p (further_lines text) xs ys is.1 as'.1)

no_unknown : (text : List ℕ) (p : Problem) (a : Answer) (n : ℕ) → IsAnswerOf text p a → IsFirstUnknown p (further_lines text) n → ⊥
no_unknown text p NoCover n is u = omega (arith, ap length is.1, ap length u.place, length-append u.before ((n, u.words) ∷ u.after))
no_unknown text p (Cover xs) n is u = unknown_has_none p (further_lines text) n xs u is.1

faultless : (text : List ℕ) (p : Problem) (a : Answer) (fault : AnswerFault) → IsAnswerOf text p a → IsFaultOf text p fault → ⊥
faultless text p a BadHead is other = other (length (further_lines text)) (head_of_answer text p a is)
faultless text p a WrongCount is other = other.2 (head_same (head_words text) _ _ (head_of_answer text p a is) other.1)
faultless text p a (UnknownOption n) is other = no_unknown text p a n is other.1
faultless text p a Memory is other = other

fault_same : (text : List ℕ) (p : Problem) (f g : AnswerFault) → IsFaultOf text p f → IsFaultOf text p g → f ≡ g
fault_same text p BadHead BadHead is other = refl
fault_same text p BadHead WrongCount is other = absurd (is other.0 other.1)
fault_same text p BadHead (UnknownOption m) is other = absurd (is (length (further_lines text)) other.0)
fault_same text p WrongCount BadHead is other = absurd (other is.0 is.1)
fault_same text p WrongCount WrongCount is other = refl
fault_same text p WrongCount (UnknownOption m) is other = absurd (is.2 (head_same (head_words text) _ _ other.0 is.1))
fault_same text p (UnknownOption n) BadHead is other = absurd (other (length (further_lines text)) is.0)
fault_same text p (UnknownOption n) WrongCount is other = absurd (other.2 (head_same (head_words text) _ _ is.0 other.1))
fault_same text p (UnknownOption n) (UnknownOption m) is other = ap UnknownOption (unknown_same p (further_lines text) n m is.1 other.1)
fault_same text p f Memory is other = absurd other
fault_same text p Memory g is other = absurd is

-- a text gives one answer, or one fault
pub read_same : (text : List ℕ) (p : Problem) (r q : Result Answer AnswerFault) → IsReadOf text p r → IsReadOf text p q → r ≡ q
read_same text p (Ok a) (Ok b) is other = ap Ok (answer_same text p a b is other)
read_same text p (Ok a) (Err g) is other = absurd (faultless text p a g is other)
read_same text p (Err f) (Ok b) is other = absurd (faultless text p b f other is)
read_same text p (Err f) (Err g) is other = ap Err (fault_same text p f g is other)

-- what is read with memory enough is what the text gives
pub only_read : (text : List ℕ) (p : Problem) (r q : Result Answer AnswerFault) → IfOk r (IsAnswerOf text p) → IfErr r (λ fault. fault ≢ Memory → IsFaultOf text p fault) → r ≢ Err Memory → IsReadOf text p q → r ≡ q
only_read text p (Ok a) q answer fault some is = read_same text p (Ok a) q answer is
only_read text p (Err f) q answer fault some is = read_same text p (Err f) q (fault (λ same. some (ap Err same))) is
