-- Fronts: what stands at the front of a front, and before more.
use Rattle.std.proofs.Common.{◌≡◌, ℕ, List, ◌++◌, append_assoc, sym, ap, ◌∙◌}
use Rattle.std.proofs.lemmas.List.{append_cancel_left}
use Rattle.commands.specs.Fronts.{IsFront, IsFrontBehind}

-- a front of bytes is a front of them with more behind
pub front_of_more : (xs ys more whole : List ℕ) → ys ++ more ≡ whole → IsFront xs ys → IsFront xs whole
front_of_more xs ys more whole is front = (front.0 ++ more, sym (append_assoc xs front.0 more) ∙ (ap (λ zs. zs ++ more) front.1 ∙ is))

-- what was taken and waits, and then a part of what is to come
pub front_of_part : (taken written waiting part behind rest whole : List ℕ) → (written ++ waiting) ++ rest ≡ whole → part ++ behind ≡ rest → IsFront taken (written ++ (waiting ++ part)) → IsFront taken whole
front_of_part taken written waiting part behind rest whole is parts front =
    front_of_more taken (written ++ (waiting ++ part)) behind whole (ap (λ zs. zs ++ behind) (sym (append_assoc written waiting part)) ∙ (append_assoc (written ++ waiting) part behind ∙ (ap (λ zs. (written ++ waiting) ++ zs) parts ∙ is))) front

-- a front of a part, where a part and more are the whole
pub front_before : (taken before part more all whole : List ℕ) → part ++ more ≡ all → before ++ all ≡ whole → IsFront taken (before ++ part) → IsFront taken whole
front_before taken before part more all whole parts is front =
    front_of_more taken (before ++ part) more whole (append_assoc before part more ∙ (ap (λ zs. before ++ zs) parts ∙ is)) front

-- a front of what is the whole
pub front_of_same : (taken part whole : List ℕ) → part ≡ whole → IsFront taken part → IsFront taken whole
front_of_same taken part whole is front = (front.0, front.1 ∙ is)

-- what was there is a front of what is there, and that is a front of what was there and the text
pub front_behind : (before now text : List ℕ) → IsFront before now → IsFront now (before ++ text) → IsFrontBehind before now text
front_behind before now text grew front =
    (grew.0, sym grew.1, (front.0, append_cancel_left before (grew.0 ++ front.0) text (sym (append_assoc before grew.0 front.0) ∙ (ap (λ b. b ++ front.0) grew.1 ∙ front.1))))
