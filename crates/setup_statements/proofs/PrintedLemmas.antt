-- The printed line of a statement is text, and is read as that statement.
use Rattle.std.proofs.Common.{◌≡◌, ◌⊎◌, ℕ, ◌/◌, ◌%◌, ◌<◌, ◌≤◌, ◌^◌, Bool, true, false, List, [], ◌∷◌, ◌++◌, refl, sym, ◌∙◌, ap, subst, arith, inl, inr, Option, Some, None}
use Rattle.std.specs.Prelude.{◌==◌, ◌&&◌, if◌then◌else◌, nat_le, codes}
use Rattle.std.specs.List.{All, AllByRecursion}
use Rattle.std.specs.Fmt.{decimal}
use Rattle.std.proofs.lemmas.Bool.{and_parts}
use Rattle.std.proofs.lemmas.Bool.Decides.{nat_tests}
use Rattle.std.proofs.lemmas.List.Elements.{All-from_recursion, All-append, All-cons, All-weaker}
use Rattle.std.proofs.lemmas.List.{append-nil}
use Rattle.std.proofs.lemmas.List.Splits.{slice_split_at, slice_split_none}
use Rattle.wire_base.specs.Numbers.{AreBytes}
use Rattle.net_frames.specs.declared.contents.Side.{Side}
use Rattle.net_frames.specs.declared.contents.Side.TheVariants.{Source, Destination}
use Rattle.nsh_metadata.specs.declared.contexts.Context.{Context}
use Rattle.nsh_metadata.specs.declared.contexts.Context.TheVariants.{Fixed16, Items}
use Rattle.text_words.specs.Hexadecimal.{hexadecimal, four_digits, octets_or_dash}
use Rattle.text_words.specs.Names.{IsName, is_name_byte}
use Rattle.text_words.specs.Pieces.{pieces_of, words_of}
use Rattle.service_functions.specs.Functions.{has_ports, IsFunction}
use Rattle.service_functions.specs.declared.functions.Function.{Function}
use Rattle.service_functions.specs.declared.functions.Function.TheVariants.{Pass, Firewall, Remark, Nat, HopLimit, PushVlan, PopVlan, Stamp, RequireMeta, ClearMeta}
use Rattle.classifier.specs.Rules.{FitsIfAsked, IsPrefix, IsPorts, IsAction, IsRuleContext}
use Rattle.classifier.specs.declared.rules.Prefix.{Prefix}
use Rattle.classifier.specs.declared.rules.Action.{Action}
use Rattle.classifier.specs.declared.rules.Action.TheVariants.{Path, Bypass, Refuse}
use Rattle.setup_statements.specs.declared.keywords.Keyword.{Keyword}
use Rattle.setup_statements.specs.declared.keywords.Keyword.TheVariants as keyword
use Rattle.setup_statements.specs.declared.statements.Statement.{Statement}
use Rattle.setup_statements.specs.declared.statements.Statement.TheVariants.{Local, Target, Peer, Forwarder, Ingress, Instance, Rule}
use Rattle.setup_statements.specs.Keywords.{keyword_text}
use Rattle.setup_statements.specs.FunctionText.{port_protocol, side_text, function_words}
use Rattle.setup_statements.specs.RuleText.{star_or, prefix_text, ports_text, protocol_text, IsProtocolText, context_text, action_words}
use Rattle.setup_statements.specs.Statements.{mode_text, keyword_of, words_behind, IsStatement, Tells, Spells, said, line_of, octets_of}
use Rattle.setup_statements.proofs.TextLemmas.{decimal_all, hexadecimal_all, dotted_all, address_all}
use Rattle.setup_statements.proofs.OneLemmas.{octets_fit}
use Rattle.setup_statements.proofs.PrintingLemmas.{said_after}

-- a byte of a word: printable and no space
abbrev pub IsWordByte : ℕ → Type 0
IsWordByte b = (33 ≤ b) × (b ≤ 126)

abbrev pub IsWord : List ℕ → Type 0
IsWord w = All IsWordByte w

abbrev pub AreWords : List (List ℕ) → Type 0
AreWords ws = AllByRecursion IsWord ws

abbrev is_word_byte : ℕ → Bool
is_word_byte b = nat_le 33 b && nat_le b 126

abbrev are_word_bytes : List ℕ → Bool
are_word_bytes [] = true
are_word_bytes (b ∷ bs) = is_word_byte b && are_word_bytes bs

byte_of : (b : ℕ) → is_word_byte b ≡ true → IsWordByte b
byte_of b h =
    let least : 33 ≤ b = grind (arith, nat_tests) in
    let most : b ≤ 126 = grind (arith, nat_tests) in
    (least, most)

literal_rec : (w : List ℕ) → are_word_bytes w ≡ true → AllByRecursion IsWordByte w
literal_rec [] h = tt
literal_rec (b ∷ bs) h = let parts = and_parts (is_word_byte b) (are_word_bytes bs) h in (byte_of b parts.0, literal_rec bs parts.1)

literal : (w : List ℕ) → are_word_bytes w ≡ true → IsWord w
literal w h = All-from_recursion IsWordByte w (literal_rec w h)

digit : (c : ℕ) → 48 ≤ c → c ≤ 57 → IsWordByte c
digit c least most = (omega (arith, least), omega (arith, most))

letter : (c : ℕ) → 97 ≤ c → c ≤ 102 → IsWordByte c
letter c least most = (omega (arith, least), omega (arith, most))

number_word : (n : ℕ) → n < 2 ^ 32 → IsWord (decimal n)
number_word n h = decimal_all IsWordByte digit n (omega (arith, h))

hex_word : (bytes : List ℕ) → AreBytes bytes → IsWord (hexadecimal bytes)
hex_word bytes h = hexadecimal_all IsWordByte digit letter bytes h

point : IsWordByte 46
point = (omega arith, omega arith)

name_byte : (c : ℕ) → is_name_byte c ≡ true → IsWordByte c
name_byte c h =
    let least : 33 ≤ c = grind (arith, nat_tests) in
    let most : c ≤ 126 = grind (arith, nat_tests) in
    (least, most)

name_word : (n : List ℕ) → IsName n → IsWord n
name_word n h = λ k d lt. name_byte _ (h.characters k d lt)

four_word : (n : ℕ) → n < 2 ^ 16 → IsWord (four_digits n)
four_word n h =
    let first : n / 256 < 256 = omega (arith, h) in
    hex_word (n / 256 ∷ n % 256 ∷ []) (All-from_recursion (λ b. b < 256) (n / 256 ∷ n % 256 ∷ []) (first, (omega arith, tt)))

body_word : (bytes : List ℕ) → AreBytes bytes → IsWord (octets_or_dash bytes)
body_word [] h = literal (codes "-") refl
body_word (b ∷ bs) h = hex_word (b ∷ bs) h

if_word : (t : Bool) (v w : List ℕ) → IsWord v → IsWord w → IsWord (if t then v else w)
if_word true v w hv hw = hv
if_word false v w hv hw = hw

protocol_word : (p : ℕ) → IsWord (port_protocol p)
protocol_word p = if_word (p == 6) (codes "tcp") (codes "udp") (literal (codes "tcp") refl) (literal (codes "udp") refl)

side_word : (s : Side) → IsWord (side_text s)
side_word Source = literal (codes "source") refl
side_word Destination = literal (codes "destination") refl

mode_word : (b : Bool) → IsWord (mode_text b)
mode_word true = literal (codes "proxy") refl
mode_word false = literal (codes "aware") refl

function_are : (f : Function) → IsFunction f → AreWords (function_words f)
function_are Pass h = (literal (codes "pass") refl, tt)
function_are (Firewall p low high) h =
    (literal (codes "firewall") refl, (protocol_word p, (number_word low (omega (arith, h.1, h.2)), (number_word high (omega (arith, h.2)), tt))))
function_are (Remark n) h = (literal (codes "remark") refl, (number_word n (omega (arith, h)), tt))
function_are (Nat s a b) h = (literal (codes "nat") refl, (side_word s, (dotted_all IsWordByte digit point a h.0, (dotted_all IsWordByte digit point b h.1, tt))))
function_are HopLimit h = (literal (codes "hoplimit") refl, tt)
function_are (PushVlan n) h = (literal (codes "push-vlan") refl, (number_word n (omega (arith, h)), tt))
function_are PopVlan h = (literal (codes "pop-vlan") refl, tt)
function_are (Stamp c k x) h =
    (literal (codes "stamp") refl, (four_word c h.0, (number_word k (omega (arith, h.1)), (body_word x.items h.2.1, tt))))
function_are (RequireMeta c k) h = (literal (codes "require-meta") refl, (four_word c h.0, (number_word k (omega (arith, h.1)), tt)))
function_are ClearMeta h = (literal (codes "clear-meta") refl, tt)

star_word : {X : Type 0} (P : X → Type 0) (spelling : X → List ℕ) → ((x : X) → P x → IsWord (spelling x)) → (o : Option X) → FitsIfAsked P o → IsWord (star_or spelling o)
star_word P spelling h None fits = literal (codes "*") refl
star_word P spelling h (Some x) fits = h x fits

few_bits : (p : Prefix) → IsPrefix p → p.bits < 2 ^ 32
few_bits p h = grind arith

prefix_word : (p : Prefix) → IsPrefix p → IsWord (prefix_text p)
prefix_word p h =
    All-append IsWordByte _ _ (address_all IsWordByte digit letter point p.address h.0)
    (All-cons IsWordByte 47 (decimal p.bits) (omega arith, omega arith) (number_word p.bits (few_bits p h)))

ports_word : (p : ℕ × ℕ) → IsPorts p → IsWord (ports_text p)
ports_word p h =
    All-append IsWordByte _ _ (number_word p.0 (omega (arith, h)))
    (All-cons IsWordByte 45 (decimal p.1) (omega arith, omega arith) (number_word p.1 (omega (arith, h))))

named_word : (p : ℕ) → p ≤ 255 → IsWord (protocol_text p)
named_word p h = if_word (has_ports p) (port_protocol p) (decimal p) (protocol_word p) (number_word p (omega (arith, h)))

context_word : (c : Context) → IsRuleContext c → IsWord (context_text c)
context_word (Fixed16 bytes) h = All-append IsWordByte (codes "md1:") (hexadecimal bytes) (literal (codes "md1:") refl) (hex_word bytes h.1)
context_word (Items items) h = literal (codes "md2") refl

action_are : (a : Action) → IsAction a → AreWords (action_words a)
action_are (Path spi si ttl c) h =
    (literal (codes "path") refl, (number_word spi (omega (arith, h.0)), (number_word si (omega (arith, h.1)), (number_word ttl (omega (arith, h.2)), (context_word c h.3, tt)))))
action_are Bypass h = (literal (codes "bypass") refl, tt)
action_are Refuse h = (literal (codes "refuse") refl, tt)

words_are : (s : Statement) → IsStatement s → AreWords (words_behind s)
words_are (Local l) h =
    (number_word l.asn h.asn_most, (dotted_all IsWordByte digit point (octets_of l.id) (octets_fit l.id h.id_most), (number_word l.hold (let most = h.hold_most in omega (arith, most)), tt)))
words_are (Target t) h = (hex_word t h.1, tt)
words_are (Peer p) h = (number_word p.0 (omega (arith, h)), (number_word p.1 (omega (arith, h)), tt))
words_are (Forwarder f) h = (name_word f.name h.0, (address_all IsWordByte digit letter point f.address h.1, tt))
words_are (Ingress n) h = (name_word n h, tt)
words_are (Instance i b) h =
    (name_word i.name h.0, (hex_word i.rd h.1.1, (number_word i.kind (omega (arith, h.2)), (mode_word b.proxy, function_are b.function h.3))))
words_are (Rule r) h = (
  star_word (λ v. v ≤ 4095) decimal (λ v most. number_word v (omega (arith, most))) r.vlan h.vlan,
  (
    star_word IsPrefix prefix_text prefix_word r.from h.from_fits,
    (
      star_word IsPrefix prefix_text prefix_word r.to h.to_fits,
      (
        star_word (λ p. p ≤ 255) protocol_text named_word r.protocol h.protocol,
        (star_word IsPorts ports_text ports_word r.ports h.ports, action_are r.action h.action),
      ),
    ),
  ),
)

keyword_word : (k : Keyword) → IsWord (keyword_text k)
keyword_word keyword.Local = literal (codes "local") refl
keyword_word keyword.Target = literal (codes "target") refl
keyword_word keyword.Peer = literal (codes "peer") refl
keyword_word keyword.Forwarder = literal (codes "forwarder") refl
keyword_word keyword.Ingress = literal (codes "ingress") refl
keyword_word keyword.Instance = literal (codes "instance") refl
keyword_word keyword.Rule = literal (codes "rule") refl

-- a word, a space, and the words behind it
said_step : (key w : List ℕ) (ws : List (List ℕ)) → said key (w ∷ ws) ≡ key ++ 32 ∷ said w ws
said_step key w ws = said_after key (32 ∷ w) ws ∙ ap (λ r. key ++ r) (said_after (32 ∷ []) w ws)

no_space_byte : (b : ℕ) → 33 ≤ b → (b == 32) ≡ false
no_space_byte b h = grind (arith, nat_tests)

no_space : (w : List ℕ) → IsWord w → All (λ b. (b == 32) ≡ false) w
no_space w h = All-weaker IsWordByte (λ b. (b == 32) ≡ false) (λ b fits. no_space_byte b fits.0) w h

cut_said : (key : List ℕ) (ws : List (List ℕ)) → IsWord key → AreWords ws → pieces_of 32 (said key ws) ≡ key ∷ ws
unfolding pieces_of
cut_said key [] hk hw = slice_split_none (λ b. b == 32) key (no_space key hk)
cut_said key (w ∷ ws) hk hw =
    ap (pieces_of 32) (said_step key w ws)
    ∙ slice_split_at (λ b. b == 32) key 32 (said w ws) (no_space key hk) refl
    ∙ ap (λ r. key ∷ r) (cut_said w ws hw.0 hw.1)

-- a byte of a line
abbrev pub IsLineByte : ℕ → Type 0
IsLineByte b = (32 ≤ b) × (b ≤ 126)

line_byte : (b : ℕ) → IsWordByte b → IsLineByte b
line_byte b h = (omega (arith, h), h.1)

said_all : (key : List ℕ) (ws : List (List ℕ)) → IsWord key → AreWords ws → All IsLineByte (said key ws)
said_all key [] hk hw = All-weaker IsWordByte IsLineByte line_byte key hk
said_all key (w ∷ ws) hk hw =
    subst (All IsLineByte) (sym (said_step key w ws))
    (All-append IsLineByte key (32 ∷ said w ws) (All-weaker IsWordByte IsLineByte line_byte key hk)
    (All-cons IsLineByte 32 (said w ws) (omega arith, omega arith) (said_all w ws hw.0 hw.1)))

named_or_not : (t : Bool) (p : ℕ) → has_ports p ≡ t
    → ((if t then port_protocol p else decimal p) ≡ decimal p) ⊎ ((has_ports p ≡ true) × ((if t then port_protocol p else decimal p) ≡ port_protocol p))
named_or_not true p h = inr (h, refl)
named_or_not false p h = inl refl

protocol_is_told : (o : Option ℕ) → FitsIfAsked (λ p. p ≤ 255) o → IsProtocolText o (star_or protocol_text o)
protocol_is_told None h = refl
protocol_is_told (Some p) h = (h, named_or_not (has_ports p) p refl)

tells_itself : (s : Statement) → IsStatement s → Tells (words_behind s) s
tells_itself (Rule r) h = record { fits = h; protocol = star_or protocol_text r.protocol; protocol_told = protocol_is_told r.protocol h.protocol; told = refl }
tells_itself s h = (h, refl)

-- the bytes of a printed line
pub line_bytes : (s : Statement) → IsStatement s → All IsLineByte (line_of s)
line_bytes s h = said_all (keyword_text (keyword_of s)) (words_behind s) (keyword_word (keyword_of s)) (words_are s h)

-- a printed line is read as its statement
pub spelled_back : (s : Statement) → IsStatement s → Spells (words_of (line_of s)) s
spelled_back s h = record {
  behind = words_behind s;
  first = cut_said (keyword_text (keyword_of s)) (words_behind s) (keyword_word (keyword_of s)) (words_are s h);
  told = tells_itself s h;
}

-- a printed line begins with its keyword
pub line_front : (s : Statement) → line_of s ≡ keyword_text (keyword_of s) ++ said [] (words_behind s)
line_front s = ap (λ k. said k (words_behind s)) (sym (append-nil (keyword_text (keyword_of s)))) ∙ said_after (keyword_text (keyword_of s)) [] (words_behind s)
