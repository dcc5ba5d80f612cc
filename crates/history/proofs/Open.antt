-- One name that opens what an entry says was done: a proof over one call says `unfolding reading`.
-- Assumes nothing.
use Rattle.history.specs.Histories as histories'
use Rattle.history.specs.Deeds as deeds'
use Rattle.history.specs.Rounds as rounds'

unfoldable pub reading : Unit {0}
unfolding histories'.stands deeds'.of_admin deeds'.of_event deeds'.of_entry deeds'.of_timer deeds'.of_arrival deeds'.is_install deeds'.is_delete deeds'.is_lock deeds'.is_unlock deeds'.installs deeds'.deletes deeds'.locks deeds'.unlocks deeds'.priority_requested deeds'.priority_in deeds'.is_event deeds'.is_set deeds'.is_clear deeds'.sets deeds'.clears deeds'.is_request deeds'.seconds_requested deeds'.requests deeds'.seconds_in deeds'.is_given deeds'.is_release deeds'.gives deeds'.releases deeds'.is_new deeds'.is_change deeds'.is_enable deeds'.is_disable deeds'.makes deeds'.changes deeds'.enables deeds'.disables deeds'.entry_applet deeds'.entry_text deeds'.entry_help deeds'.applet_in deeds'.text_in deeds'.help_in deeds'.is_profile deeds'.is_command deeds'.is_response deeds'.profiles deeds'.commands deeds'.responds rounds'.opens rounds'.is_settled rounds'.settles rounds'.is_next rounds'.is_turn rounds'.names rounds'.finds_nobody rounds'.leaves
reading = tt
