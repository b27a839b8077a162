-- What the words behind a first word tell, by that word.
use Rattle.std.proofs.Common.{◌≡◌, ℕ, ◌<◌, ◌^◌, List, [], ◌∷◌, take, sym, ◌∙◌, ap, subst, refl, arith, Option, Some, None}
use Rattle.std.specs.Prelude.{◌≢◌, MatchOption, codes}
use Rattle.std.specs.Fmt.{decimal}
use Rattle.std.proofs.lemmas.Fmt.{decimal_injective}
use Rattle.wire_base.specs.Numbers.{big_endian}
use Rattle.nsh_metadata.specs.declared.contexts.Context.{Context}
use Rattle.net_frames.specs.declared.contents.Side.{Side}
use Rattle.arrayvec.specs.ArrayVec.{ArrayVec}
use Rattle.text_words.specs.Reading.{Reads}
use Rattle.text_words.specs.Hexadecimal.{IsOctets}
use Rattle.text_words.specs.Addresses.{dotted}
use Rattle.bgp_session.specs.declared.local_sides.Local.{Local as LocalSide}
use Rattle.bgp_session.specs.LocalSide.{IsLocal, local_side}
use Rattle.sfc_routes.specs.declared.entries.InstanceEntry.{InstanceEntry}
use Rattle.service_functions.specs.declared.functions.Function.{Function}
use Rattle.service_functions.specs.declared.functions.Function.TheVariants.{Firewall, Nat, Stamp, RequireMeta}
use Rattle.classifier.specs.Rules.{IsAction}
use Rattle.classifier.specs.declared.rules.Action.{Action}
use Rattle.classifier.specs.declared.rules.Action.TheVariants.{Path}
use Rattle.setup_statements.specs.declared.keywords.Keyword.{Keyword}
use Rattle.setup_statements.specs.declared.keywords.Keyword.TheVariants as keyword
use Rattle.setup_statements.specs.declared.keywords.FunctionWord.{FunctionWord}
use Rattle.setup_statements.specs.declared.keywords.FunctionWord.TheVariants as function
use Rattle.setup_statements.specs.declared.statements.Bound.{Bound}
use Rattle.setup_statements.specs.declared.statements.Statement.{Statement}
use Rattle.setup_statements.specs.declared.statements.Statement.TheVariants as statement
use Rattle.setup_statements.specs.FunctionText.{firewall_words, nat_words, meta_words, stamp_words, told_words}
use Rattle.setup_statements.specs.RuleText.{path_words, action_words}
use Rattle.setup_statements.specs.Steps.{IsFirewall, IsNat, IsMeta, IsStamp, IsFunctionOf, IsPath}
use Rattle.setup_statements.specs.Statements.{octets_of, local_words, IsInstance, instance_words, keyword_of, Tells}
use Rattle.setup_statements.proofs.StepLemmas.{head_is, tail_is}
use Rattle.setup_statements.proofs.KeywordLemmas.{differ}
use Rattle.setup_statements.proofs.OneLemmas.{four_bytes, one_dotted, octets_fit, octets_back, one_octets}

pub no_firewall : (words : List (List ℕ)) → ((t : ℕ × ℕ × ℕ) → IsFirewall t → words ≢ firewall_words t)
    → (kind : FunctionWord) → kind ≡ function.Firewall → (v : Function) → IsFunctionOf kind v → words ≢ told_words v
no_firewall words none kind is (Firewall p low high) told e = none (p, low, high) told.1 e
no_firewall words none kind is v told e = let wrong = told.0 ∙ is in absurd cc

pub no_nat : (words : List (List ℕ)) → ((t : Side × List ℕ × List ℕ) → IsNat t → words ≢ nat_words t)
    → (kind : FunctionWord) → kind ≡ function.Nat → (v : Function) → IsFunctionOf kind v → words ≢ told_words v
no_nat words none kind is (Nat side from to) told e = none (side, from, to) told.1 e
no_nat words none kind is v told e = let wrong = told.0 ∙ is in absurd cc

pub no_stamp : (words : List (List ℕ)) → ((t : ℕ × ℕ × ArrayVec ℕ) → IsStamp t → words ≢ stamp_words t)
    → (kind : FunctionWord) → kind ≡ function.Stamp → (v : Function) → IsFunctionOf kind v → words ≢ told_words v
no_stamp words none kind is (Stamp class type body) told e = none (class, type, body) told.1 e
no_stamp words none kind is v told e = let wrong = told.0 ∙ is in absurd cc

pub no_meta : (words : List (List ℕ)) → ((t : ℕ × ℕ) → IsMeta t → words ≢ meta_words t)
    → (kind : FunctionWord) → kind ≡ function.RequireMeta → (v : Function) → IsFunctionOf kind v → words ≢ told_words v
no_meta words none kind is (RequireMeta class type) told e = none (class, type) told.1 e
no_meta words none kind is v told e = let wrong = told.0 ∙ is in absurd cc

pub no_path : (words rest : List (List ℕ)) (word : List ℕ) → words ≡ word ∷ rest → word ≡ codes "path"
    → ((p : ℕ × ℕ × ℕ × Context) → IsPath p → rest ≢ path_words p) → (v : Action) → IsAction v → words ≢ action_words v
no_path words rest word first is none (Path spi si ttl context) fits e = none (spi, si, ttl, context) fits (tail_is words _ _ _ _ first e)
no_path words rest word first is none v fits e = absurd (omega (arith, differ _ _ (sym is ∙ head_is words _ _ _ _ first e)))

pub no_instance : (words : List (List ℕ)) → ((i : InstanceEntry × Bound) → IsInstance i → words ≢ instance_words i)
    → (k : Keyword) → k ≡ keyword.Instance → (s : Statement) → keyword_of s ≡ k → Tells words s → ⊥
no_instance words none k is (statement.Instance i bound) own told = none (i, bound) told.0 told.1
no_instance words none k is s own told = let wrong = own ∙ is in absurd cc

-- the identifier of four bytes
pub identifier_is : (id : ℕ) (octets bytes : List ℕ) → IsOctets 4 octets → bytes ≡ octets → id ≡ big_endian (take 4 bytes) → octets_of id ≡ octets
identifier_is id octets bytes h same is =
    let f = four_bytes octets h in
    let all : take 4 octets ≡ octets = ap (take 4) f.is ∙ sym f.is in
    ap octets_of (is ∙ ap (λ b. big_endian (take 4 b)) same ∙ ap big_endian all) ∙ octets_back octets h

pub local_is : (v : LocalSide) (a i h : ℕ) → a ≡ v.asn → i ≡ v.id → h ≡ v.hold → v ≡ local_side a i h
local_is v a i h p q r =
    ap (λ x. local_side x v.id v.hold) (sym p) ∙ ap (λ y. local_side a y v.hold) (sym q) ∙ ap (local_side a i) (sym r)

-- what is no local side is told by no words
pub reads_local : (words : List (List ℕ)) (a i h : ℕ) (r : Option LocalSide) → a < 2 ^ 64 → i < 2 ^ 32 → h < 2 ^ 64
    → words ≡ decimal a ∷ dotted (octets_of i) ∷ decimal h ∷ []
    → MatchOption r (IsLocal (local_side a i h) → ⊥) (λ l. (l ≡ local_side a i h) × IsLocal l)
    → Reads IsLocal local_words words r
reads_local words a i h None sa si sh is not_local = λ v fits e.
    let asn = decimal_injective a v.asn sa (omega (arith, fits.asn_most)) (head_is words _ _ _ _ is e) in
    let behind = tail_is words _ _ _ _ is e in
    let id = one_octets i v.id (one_dotted _ _ (octets_fit i si) (octets_fit v.id fits.id_most) (head_is _ _ _ _ _ refl behind)) in
    let last = tail_is _ _ _ _ _ refl behind in
    let hold = decimal_injective h v.hold sh (omega (arith, fits.hold_most)) (head_is _ _ _ _ _ refl last) in
    not_local (subst IsLocal (local_is v a i h asn id hold) fits)
reads_local words a i h (Some l) sa si sh is made = (made.1, is ∙ ap local_words (sym made.0))
