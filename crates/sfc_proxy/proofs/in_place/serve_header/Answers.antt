use Rattle.sfc_proxy.proofs.in_place.serve_header.Goals as goal

pub returns-in-Stamp : goal.returns-in-Stamp
returns-in-Stamp c = rw c.in-Stamp.is c.stamp.ensures
