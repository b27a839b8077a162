-- What the ends of the walks over a static path leave in the egress.
use Rattle.std.proofs.Common.{◌≡◌, ℕ, ◌≤◌, ◌<◌, List, [], ◌∷◌, ◌++◌, Option, None, Some, refl, sym, ap, subst, ◌∙◌, append_assoc, arith}
use Rattle.std.specs.List.{AllZip}
use Rattle.std.proofs.lemmas.List.{append-nil}
use Rattle.std.proofs.lemmas.List.Concat.{flat_map-cons}
use Rattle.pcap_io.specs.declared.forms.Form.{Form}
use Rattle.pcap_io.specs.declared.frames.Captured.{Captured}
use Rattle.pcap_io.specs.declared.reasons.Refusal.{Refusal}
use Rattle.pcap_io.specs.Captures.{packet, packets}
use Rattle.pcap_io.specs.Heads.{file_head}
use Rattle.pcap_io.specs.Egress.{packet_left, packets_left, egress_of}
use Rattle.pcap_io.proofs.OneReading.{first_frames}
use Rattle.commands.specs.Fronts.{IsFront}
use Rattle.record_text.specs.declared.records.End.{End}
use Rattle.record_text.specs.declared.records.End.TheVariants.{Egress, Bypass, Drop}
use Rattle.record_text.specs.declared.records.Reason.TheVariants.{Ttl}
use Rattle.forwarder.specs.Workspaces.{taken_in}
use Rattle.static_walks.proofs.WalkEnds.{egress_up_to, spent_above, static_end, one_end}
use Rattle.walk_command.specs.WalkCommand.{left_at, leaving_of, WalksOf, WroteFront, Writes, BeginsWithFrames, whole_egress, bare_egress}
use Rattle.walk_command.specs.WalkSteps.{kept_at}

-- ---- one more frame

-- one more pair that is related
pub zip_and_one : {A B : Type 0} (R : A → B → Type 0) (xs : List A) (ys : List B) (x : A) (y : B) → AllZip R xs ys → R x y → AllZip R (xs ++ x ∷ []) (ys ++ y ∷ [])
zip_and_one R [] [] x y all one = (one, tt)
zip_and_one R [] (b ∷ bs) x y all one = absurd all
zip_and_one R (a ∷ as') [] x y all one = absurd all
zip_and_one R (a ∷ as') (b ∷ bs) x y all one = (all.0, zip_and_one R as' bs x y all.1 one)

-- what a frame leaves is its packet, or nothing
left_is : (form : Form) (frame : Captured) (end : End) → packet_left form frame (left_at frame end) ≡ kept_at end (packet form frame)
left_is form frame Egress = refl
left_is form frame Bypass = refl
left_is form frame (Drop why) = refl

left_and_one : (R : Captured → End → Type 0) (form : Form) (frames : List Captured) (ends : List End) (frame : Captured) (end : End) → AllZip R frames ends → packets_left form (frames ++ frame ∷ []) (leaving_of (frames ++ frame ∷ []) (ends ++ end ∷ [])) ≡ packets_left form frames (leaving_of frames ends) ++ kept_at end (packet form frame)
left_and_one R form [] [] frame end all = append-nil (packet_left form frame (left_at frame end)) ∙ left_is form frame end
left_and_one R form [] (e ∷ es) frame end all = absurd all
left_and_one R form (f ∷ fs) [] frame end all = absurd all
left_and_one R form (f ∷ fs) (e ∷ es) frame end all =
    ap (λ l. packet_left form f (left_at f e) ++ l) (left_and_one R form fs es frame end all.1)
    ∙ sym (append_assoc (packet_left form f (left_at f e)) (packets_left form fs (leaving_of fs es)) (kept_at end (packet form frame)))

pub egress_and_one : (R : Captured → End → Type 0) (form : Form) (frames : List Captured) (ends : List End) (frame : Captured) (end : End) → AllZip R frames ends → egress_of (Some form) (frames ++ frame ∷ []) (leaving_of (frames ++ frame ∷ []) (ends ++ end ∷ [])) ≡ egress_of (Some form) frames (leaving_of frames ends) ++ kept_at end (packet form frame)
egress_and_one R form frames ends frame end all =
    ap (λ l. file_head form ++ l) (left_and_one R form frames ends frame end all)
    ∙ sym (append_assoc (file_head form) (packets_left form frames (leaving_of frames ends)) (kept_at end (packet form frame)))

-- ---- every frame, or none

-- up to 61 functions every frame is there
all_left : (spi count : ℕ) (form : Form) (frames : List Captured) (ends : List End) → 1 ≤ count → count ≤ 61 → WalksOf spi count frames ends → packets_left form frames (leaving_of frames ends) ≡ packets form frames
all_left spi count form [] [] some few walked = refl
all_left spi count form [] (end ∷ ends) some few walked = absurd walked
all_left spi count form (frame ∷ frames) [] some few walked = absurd walked
all_left spi count form (frame ∷ frames) (end ∷ ends) some few walked =
    let out : end ≡ Egress = static_end spi count (taken_in frame.bytes frame.original) end some (omega (arith, few)) walked.0 ∙ sym (egress_up_to count few) in
    ap (λ e. packet_left form frame (left_at frame e) ++ packets_left form frames (leaving_of frames ends)) out
    ∙ (ap (λ ps. packet form frame ++ ps) (all_left spi count form frames ends some few walked.1)
    ∙ sym (flat_map-cons (packet form) frame frames))

-- above, none is
none_left : (spi count : ℕ) (form : Form) (frames : List Captured) (ends : List End) → 61 < count → count ≤ 255 → WalksOf spi count frames ends → packets_left form frames (leaving_of frames ends) ≡ []
none_left spi count form [] ends many few walked = refl
none_left spi count form (frame ∷ frames) [] many few walked = absurd walked
none_left spi count form (frame ∷ frames) (end ∷ ends) many few walked =
    let spent : end ≡ Drop Ttl = static_end spi count (taken_in frame.bytes frame.original) end (omega (arith, many)) few walked.0 ∙ sym (spent_above count many) in
    ap (λ e. packet_left form frame (left_at frame e) ++ packets_left form frames (leaving_of frames ends)) spent ∙ none_left spi count form frames ends many few walked.1

pub all_out : (spi count : ℕ) (form : Option Form) (frames : List Captured) (ends : List End) → 1 ≤ count → count ≤ 61 → WalksOf spi count frames ends → egress_of form frames (leaving_of frames ends) ≡ whole_egress form frames
all_out spi count None frames ends some few walked = refl
all_out spi count (Some form) frames ends some few walked = ap (λ ps. file_head form ++ ps) (all_left spi count form frames ends some few walked)

pub none_out : (spi count : ℕ) (form : Option Form) (frames : List Captured) (ends : List End) → 61 < count → count ≤ 255 → WalksOf spi count frames ends → egress_of form frames (leaving_of frames ends) ≡ bare_egress form
none_out spi count None frames ends many few walked = refl
none_out spi count (Some form) frames ends many few walked = ap (λ ps. file_head form ++ ps) (none_left spi count form frames ends many few walked) ∙ append-nil (file_head form)

-- ---- a front

-- what frames leave is the front of what they and more leave
first_left : (spi count : ℕ) (form : Form) (frames more : List Captured) (ends others : List End) → 1 ≤ count → count ≤ 255 → WalksOf spi count frames ends → WalksOf spi count (frames ++ more) others → (rest : List ℕ) × (packets_left form (frames ++ more) (leaving_of (frames ++ more) others) ≡ packets_left form frames (leaving_of frames ends) ++ rest)
first_left spi count form [] more ends others some most walked all = (packets_left form more (leaving_of more others), refl)
first_left spi count form (f ∷ fs) more [] others some most walked all = absurd walked
first_left spi count form (f ∷ fs) more (e ∷ es) [] some most walked all = absurd all
first_left spi count form (f ∷ fs) more (e ∷ es) (o ∷ os) some most walked all =
    let same : o ≡ e = one_end spi count (taken_in f.bytes f.original) o e some most all.0 walked.0 in
    let deeper = first_left spi count form fs more es os some most walked.1 all.1 in (
      deeper.0,
      ap (λ x. packet_left form f (left_at f x) ++ packets_left form (fs ++ more) (leaving_of (fs ++ more) os)) same
          ∙ ap (λ l. packet_left form f (left_at f e) ++ l) deeper.1
          ∙ sym (append_assoc (packet_left form f (left_at f e)) (packets_left form fs (leaving_of fs es)) deeper.0),
    )

more_behind : (written part whole more : List ℕ) → whole ≡ part ++ more → IsFront written part → IsFront written whole
more_behind written part whole more is front = (front.0 ++ more, sym (append_assoc written front.0 more) ∙ ap (λ l. l ++ more) front.1 ∙ sym is)

-- the egress of the first frames is the front of that of all
first_egress : (spi count : ℕ) (there : Form) (form : Option Form) (frames all more : List Captured) (ends others : List End) → 1 ≤ count → count ≤ 255 → form ≡ Some there → all ≡ frames ++ more → WalksOf spi count frames ends → WalksOf spi count all others → (rest : List ℕ) × (egress_of form all (leaving_of all others) ≡ egress_of (Some there) frames (leaving_of frames ends) ++ rest)
first_egress spi count there form frames all more ends others some most is split walked walked' =
    let at : WalksOf spi count (frames ++ more) others = subst (λ (l : List Captured). WalksOf spi count l others) split walked' in
    let left = first_left spi count there frames more ends others some most walked at in (
      left.0,
      ap (λ (f : Option Form). egress_of f all (leaving_of all others)) is
          ∙ ap (λ (l : List Captured). file_head there ++ packets_left there l (leaving_of l others)) split
          ∙ ap (λ l. file_head there ++ l) left.1
          ∙ sym (append_assoc (file_head there) (packets_left there frames (leaving_of frames ends)) left.0),
    )

pub front_of_whole : (spi count : ℕ) (input written output : List ℕ) (stop : Option Refusal) → 1 ≤ count → count ≤ 255 → WroteFront spi count input written → Writes spi count input stop output → IsFront written output
front_of_whole spi count input written output stop some most w all = from_form w.form w.begins w.front
  where
    from_form : (known : Option Form) → BeginsWithFrames known input w.frames → IsFront written (egress_of known w.frames (leaving_of w.frames w.ends)) → IsFront written output
    from_form None begins front = more_behind written [] output output refl front
    from_form (Some there) begins front =
        let first = first_frames input there all.form begins.front begins.rest w.frames all.frames stop begins.is_capture begins.joined all.reads in
        let egress = first_egress spi count there all.form w.frames all.frames first.1.0 w.ends all.ends some most first.0 first.1.1 w.walked all.walked in
        more_behind written (egress_of (Some there) w.frames (leaving_of w.frames w.ends)) output egress.0 (all.egress ∙ egress.1) front
